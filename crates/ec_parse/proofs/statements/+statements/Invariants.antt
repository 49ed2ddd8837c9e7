use Rattle.std.proofs.Common.{◌-◌, ◌+◌, ◌*◌, map}
use Rattle.ec_grammar.specs.Nesting.{height_items}
use Rattle.ec_grammar.specs.Views.{view_item}
use Rattle.ec_parse_laws.specs.Reading.{many, item_at, items_of, within}
use Rattle.ec_parse_tokens.specs.Reads.{leaves_of}
use Rattle.ec_parse_expressions.proofs.Many.{IsPart}
use Rattle.ec_parse_expressions.specs.Heights.{IsHeight}
use Rattle.ec_parse.proofs.statements.+statements.Given as goal

abbrev pub decreases-compound : goal.decreases-compound
decreases-compound l = 1000 * l.left + 4

abbrev pub decreases-item : goal.decreases-item
decreases-item l = 1000 * l.left + 2

abbrev pub decreases-items : goal.decreases-items
decreases-items l = 1000 * l.left + 3

abbrev pub decreases-loop_do : goal.decreases-loop_do
decreases-loop_do l = 1000 * l.left + 3

abbrev pub decreases-loop_for : goal.decreases-loop_for
decreases-loop_for l = 1000 * l.left + 3

abbrev pub decreases-loop_while : goal.decreases-loop_while
decreases-loop_while l = 1000 * l.left + 3

abbrev pub decreases-selection : goal.decreases-selection
decreases-selection l = 1000 * l.left + 3

abbrev pub decreases-statement : goal.decreases-statement
decreases-statement l = 1000 * l.left + 6

abbrev pub decreases-substatement : goal.decreases-substatement
decreases-substatement l = 1000 * l.left + 1

abbrev pub invariant-items-loop : goal.invariant-items-loop
invariant-items-loop l = IsPart (item_at (within 64 l.left)) (map view_item l.all.items) (l.end - l.counter)
    (leaves_of l.source.count l.rest) (many (item_at (within 64 l.left)) (leaves_of l.source.count l.tokens))
    × IsHeight 64 (height_items (items_of (map view_item l.all.items))) l.height

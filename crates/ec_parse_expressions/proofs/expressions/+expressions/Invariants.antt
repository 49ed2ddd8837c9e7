use Rattle.std.proofs.Common.{◌-◌, ◌+◌, ◌*◌, map}
use Rattle.ec_grammar.specs.Nesting.{height_further}
use Rattle.ec_parse_laws.specs.Reading.{many, argument_at, further_of}
use Rattle.ec_parse_tokens.specs.Reads.{leaves_of, inner_at}
use Rattle.ec_parse_expressions.proofs.Many.{IsPart}
use Rattle.ec_parse_expressions.specs.Heights.{IsHeight}
use Rattle.ec_parse_expressions.specs.Parts.{view_argument}
use Rattle.ec_parse_expressions.proofs.expressions.+expressions.Given as goal

abbrev pub decreases-argument : goal.decreases-argument
decreases-argument l = 1000000 * l.left + (600000)

abbrev pub decreases-arguments : goal.decreases-arguments
decreases-arguments l = 1000000 * l.left + (800000)

abbrev pub decreases-assigned : goal.decreases-assigned
decreases-assigned l = 1000000 * l.left + (5)

abbrev pub decreases-assignment : goal.decreases-assignment
decreases-assignment l = 1000000 * l.left + (400000)

abbrev pub decreases-binary : goal.decreases-binary
decreases-binary l = 1000000 * l.left + (1000 * l.level + 1000)

abbrev pub decreases-call : goal.decreases-call
decreases-call l = 1000000 * l.left + (5)

abbrev pub decreases-cast : goal.decreases-cast
decreases-cast l = 1000000 * l.left + (700)

abbrev pub decreases-choice : goal.decreases-choice
decreases-choice l = 1000000 * l.left + (5)

abbrev pub decreases-commas : goal.decreases-commas
decreases-commas l = 1000000 * l.left + (400010 + l.count)

abbrev pub decreases-conditional : goal.decreases-conditional
decreases-conditional l = 1000000 * l.left + (300000)

abbrev pub decreases-expression : goal.decreases-expression
decreases-expression l = 1000000 * l.left + (500000)

abbrev pub decreases-further : goal.decreases-further
decreases-further l = 1000000 * l.left + (700000)

abbrev pub decreases-index : goal.decreases-index
decreases-index l = 1000000 * l.left + (5)

abbrev pub decreases-joins : goal.decreases-joins
decreases-joins l = 1000000 * l.left + (1000 * l.level + 500 + l.count)

abbrev pub decreases-operation : goal.decreases-operation
decreases-operation l = 1000000 * l.left + (5)

abbrev pub decreases-postfix : goal.decreases-postfix
decreases-postfix l = 1000000 * l.left + (500)

abbrev pub decreases-primary : goal.decreases-primary
decreases-primary l = 1000000 * l.left + (10)

abbrev pub decreases-suffixes : goal.decreases-suffixes
decreases-suffixes l = 1000000 * l.left + (10 + l.count)

abbrev pub decreases-unary : goal.decreases-unary
decreases-unary l = 1000000 * l.left + (600)

abbrev pub invariant-further-loop : goal.invariant-further-loop
invariant-further-loop l = IsPart (argument_at (inner_at l.left)) (map view_argument l.all.items) (l.end - l.counter)
    (leaves_of l.source.count l.rest) (many (argument_at (inner_at l.left)) (leaves_of l.source.count l.tokens))
    × IsHeight 64 (height_further (further_of (map view_argument l.all.items))) l.height

use Rattle.std.proofs.Common.{◌-◌, ◌+◌, ◌*◌, map}
use Rattle.ec_grammar.specs.Nesting.{height_initialisers}
use Rattle.ec_parse_laws.specs.Reading.{many, initialiser_at, initialisers_of}
use Rattle.ec_parse_tokens.specs.Reads.{leaves_of, inner_at}
use Rattle.ec_parse_expressions.proofs.Many.{IsPart}
use Rattle.ec_parse_expressions.specs.Heights.{IsHeight}
use Rattle.ec_parse_declarations.specs.Parts.{view_next_initialiser}
use Rattle.ec_parse_declarations.proofs.declarations.+initialisers.Given as goal

abbrev pub decreases-another_initialiser : goal.decreases-another_initialiser
decreases-another_initialiser l = 1000 * l.left + 2

abbrev pub decreases-braces : goal.decreases-braces
decreases-braces l = 1000 * l.left + 4

abbrev pub decreases-initialiser : goal.decreases-initialiser
decreases-initialiser l = 1000 * l.left + 1

abbrev pub decreases-more_initialisers : goal.decreases-more_initialisers
decreases-more_initialisers l = 1000 * l.left + 3

abbrev pub invariant-more_initialisers-loop : goal.invariant-more_initialisers-loop
invariant-more_initialisers-loop l = IsPart (initialiser_at (inner_at l.left)) (map view_next_initialiser l.all.items) (l.end - l.counter)
    (leaves_of l.source.count l.rest) (many (initialiser_at (inner_at l.left)) (leaves_of l.source.count l.tokens))
    × IsHeight 64 (height_initialisers (initialisers_of (map view_next_initialiser l.all.items))) l.height

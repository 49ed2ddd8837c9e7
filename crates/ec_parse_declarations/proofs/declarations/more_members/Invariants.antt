use Rattle.std.proofs.Common.{◌-◌, map}
use Rattle.ec_grammar.specs.Views.{view_member}
use Rattle.ec_parse_laws.specs.Reading.{many, members_at, within}
use Rattle.ec_parse_tokens.specs.Reads.{leaves_of}
use Rattle.ec_parse_expressions.proofs.Many.{IsPart}
use Rattle.ec_parse_declarations.proofs.declarations.more_members.Given as goal

abbrev pub invariant-loop : goal.invariant-loop
invariant-loop l = IsPart (members_at (within 64 l.left)) (map view_member l.all.items) (l.end - l.counter)
    (leaves_of l.source.count l.rest) (many (members_at (within 64 l.left)) (leaves_of l.source.count l.tokens))

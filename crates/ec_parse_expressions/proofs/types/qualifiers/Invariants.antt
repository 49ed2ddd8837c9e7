use Rattle.std.proofs.Common.{◌-◌}
use Rattle.ec_parse_laws.specs.Reading.{many, qualifier_at}
use Rattle.ec_parse_tokens.specs.Reads.{leaves_of}
use Rattle.ec_parse_expressions.proofs.Many.{IsPart}
use Rattle.ec_parse_expressions.proofs.types.qualifiers.Given as goal

abbrev pub invariant-loop : goal.invariant-loop
invariant-loop l = IsPart qualifier_at l.all.items (l.end - l.counter) (leaves_of l.source.count l.rest)
    (many qualifier_at (leaves_of l.source.count l.tokens))

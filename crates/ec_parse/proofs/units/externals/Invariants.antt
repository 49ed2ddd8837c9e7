use Rattle.std.proofs.Common.{◌-◌, map}
use Rattle.ec_grammar.specs.Views.{view_external}
use Rattle.ec_parse_laws.specs.Reading.{many, external_at, within}
use Rattle.ec_parse_tokens.specs.Reads.{leaves_of}
use Rattle.ec_parse_expressions.proofs.Many.{IsPart}
use Rattle.ec_parse.proofs.units.externals.Given as goal

abbrev pub invariant-loop : goal.invariant-loop
invariant-loop l = IsPart (external_at (within 64 l.left)) (map view_external l.all.items) (l.end - l.counter)
    (leaves_of l.source.count l.rest) (many (external_at (within 64 l.left)) (leaves_of l.source.count l.tokens))

use Rattle.std.proofs.Common.{◌-◌, map}
use Rattle.ec_grammar.specs.Views.{view_spec}
use Rattle.ec_parse_laws.specs.Reading.{many, spec_at}
use Rattle.ec_parse_tokens.specs.Reads.{leaves_of}
use Rattle.ec_parse_expressions.proofs.Many.{IsPart}
use Rattle.ec_parse_expressions.proofs.types.more_specs.Given as goal

abbrev pub invariant-loop : goal.invariant-loop
invariant-loop l = IsPart spec_at (map view_spec l.all.items) (l.end - l.counter) (leaves_of l.source.count l.rest)
    (many spec_at (leaves_of l.source.count l.tokens))

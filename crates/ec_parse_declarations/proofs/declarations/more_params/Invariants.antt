use Rattle.std.proofs.Common.{◌-◌, map}
use Rattle.ec_grammar.specs.Trees.{next_param}
use Rattle.ec_grammar.specs.Views.{view_next_param}
use Rattle.ec_parse_laws.specs.Reading.{many, behind_comma, param_by}
use Rattle.ec_parse_tokens.specs.Reads.{leaves_of}
use Rattle.ec_parse_expressions.proofs.Many.{IsPart}
use Rattle.ec_parse_declarations.proofs.declarations.more_params.Given as goal

abbrev pub invariant-loop : goal.invariant-loop
invariant-loop l = IsPart (behind_comma next_param param_by) (map view_next_param l.all.items) (l.end - l.counter)
    (leaves_of l.source.count l.rest) (many (behind_comma next_param param_by) (leaves_of l.source.count l.tokens))

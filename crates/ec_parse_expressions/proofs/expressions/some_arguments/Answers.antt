use Rattle.std.proofs.Common.{rules}
use Rattle.ec_grammar.specs.declared.Arguments.TheViews.{the_lemmas}
use Rattle.ec_grammar.proofs.Backwards.{further_row}
use Rattle.ec_parse_expressions.proofs.Rows.{further_map}
use Rattle.ec_parse_expressions.proofs.expressions.some_arguments.Goals as goal

pub returns : goal.returns
returns c = search (rules, the_lemmas, further_row, further_map)

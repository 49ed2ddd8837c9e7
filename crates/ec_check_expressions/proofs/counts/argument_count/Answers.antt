use Rattle.std.proofs.Common.{rules}
use Rattle.ec_grammar.specs.declared.Arguments.TheViews.{the_lemmas}
use Rattle.ec_grammar.proofs.Backwards.{further_row}
use Rattle.ec_check_expressions.proofs.counts.argument_count.Goals as goal

pub returns-in-Some : goal.returns-in-Some
returns-in-Some c = search (rules, the_lemmas, further_row)

use Rattle.std.proofs.Common.{rules, arith}
use Rattle.std.proofs.lemmas.Grind.{common_steps}
use Rattle.ec_check_expressions.proofs.Lengths.{counted}
use Rattle.ec_check_expressions.proofs.counts.further_count.Goals as goal

pub returns : goal.returns
returns c = first_of (search (rules, counted), grind (arith, common_steps, counted))

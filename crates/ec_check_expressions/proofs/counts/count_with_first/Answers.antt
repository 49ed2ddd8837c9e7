use Rattle.std.proofs.Common.{rules, arith}
use Rattle.std.proofs.lemmas.Grind.{common_steps}
use Rattle.ec_check_expressions.proofs.Lengths.{counted}
use Rattle.ec_check_expressions.proofs.counts.count_with_first.Goals as goal

pub returns : goal.returns
returns c = rw (← counted c.args.more.now) (first_of (search rules, grind (arith, common_steps)))

use Rattle.ec_check_operands.proofs.Least.{the_least_is_kept}
use Rattle.ec_check_operands.proofs.faults.the_least_is_kept.Goals as goal

pub returns : goal.returns
returns c = the_least_is_kept

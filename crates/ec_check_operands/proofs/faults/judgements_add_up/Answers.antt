use Rattle.ec_check_operands.proofs.Least.{judgements_add_up}
use Rattle.ec_check_operands.proofs.faults.judgements_add_up.Goals as goal

pub returns : goal.returns
returns c = judgements_add_up

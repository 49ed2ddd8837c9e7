use Rattle.ec_select_order.proofs.Truths.{truths_are_told}
use Rattle.ec_select_order.proofs.laws.truths_are_told.Goals as goal

pub returns : goal.returns
returns c = truths_are_told

use Rattle.ec_select_order.proofs.Truths.{relations_are_told_in}
use Rattle.ec_select_order.proofs.laws.relations_are_told_in.Goals as goal

pub returns : goal.returns
returns c = relations_are_told_in

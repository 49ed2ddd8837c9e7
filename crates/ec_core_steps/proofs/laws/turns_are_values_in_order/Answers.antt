use Rattle.ec_core_steps.proofs.InOrder.{turns_are}
use Rattle.ec_core_steps.proofs.laws.turns_are_values_in_order.Goals as goal

pub returns : goal.returns
returns c = turns_are

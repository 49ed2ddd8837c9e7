use Rattle.ec_select_bytes.proofs.Straight.{values_are_straight, values_take, values_have}
use Rattle.ec_select_bytes.proofs.laws.values_are_straight.Goals as goal

pub returns : goal.returns
returns c = record { straight = values_are_straight; steps = values_take; words = values_have }

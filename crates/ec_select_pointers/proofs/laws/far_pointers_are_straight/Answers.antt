use Rattle.ec_select_pointers.proofs.FarFormed.{far_pointers_are_straight, far_pointers_take, far_pointers_have}
use Rattle.ec_select_pointers.proofs.laws.far_pointers_are_straight.Goals as goal

pub returns : goal.returns
returns c = record { straight = far_pointers_are_straight; steps = far_pointers_take; words = far_pointers_have }

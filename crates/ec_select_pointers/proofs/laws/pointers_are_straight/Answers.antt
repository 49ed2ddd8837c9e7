use Rattle.ec_select_pointers.proofs.Short.{pointers_are_straight, pointers_take, pointers_have}
use Rattle.ec_select_pointers.proofs.laws.pointers_are_straight.Goals as goal

pub returns : goal.returns
returns c = record { straight = pointers_are_straight; steps = pointers_take; words = pointers_have }

use Rattle.ec_select_bytes.proofs.Straight.{complements_are_straight, complements_take, complements_have}
use Rattle.ec_select_bytes.proofs.laws.complements_are_straight.Goals as goal

pub returns : goal.returns
returns c = record { straight = complements_are_straight; steps = complements_take; words = complements_have }

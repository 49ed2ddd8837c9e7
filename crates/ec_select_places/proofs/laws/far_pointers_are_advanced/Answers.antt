use Rattle.ec_select_places.proofs.FarPlaces.{far_pointers_are_advanced}
use Rattle.ec_select_places.proofs.laws.far_pointers_are_advanced.Goals as goal

pub returns : goal.returns
returns c = far_pointers_are_advanced c.operators_are_right.ensures.sum c.operators_are_right.ensures.difference

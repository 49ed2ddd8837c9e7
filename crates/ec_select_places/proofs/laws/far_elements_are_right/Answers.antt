use Rattle.ec_select_places.proofs.Sized.{far_elements_are_right}
use Rattle.ec_select_places.proofs.laws.far_elements_are_right.Goals as goal

pub returns : goal.returns
returns c = far_elements_are_right c.copies_are_right.ensures c.operators_are_right.ensures.difference

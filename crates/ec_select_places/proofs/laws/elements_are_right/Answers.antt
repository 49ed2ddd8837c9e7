use Rattle.ec_select_places.proofs.Sized.{elements_are_right}
use Rattle.ec_select_places.proofs.laws.elements_are_right.Goals as goal

pub returns : goal.returns
returns c = elements_are_right c.distances_are_right.ensures

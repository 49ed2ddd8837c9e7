use Rattle.ec_select_places.proofs.FarPlaces.{far_pointers_are_compared}
use Rattle.ec_select_places.proofs.laws.far_pointers_are_compared.Goals as goal

pub returns : goal.returns
returns c = far_pointers_are_compared c.relations_are_told.ensures

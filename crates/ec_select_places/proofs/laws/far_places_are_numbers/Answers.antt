use Rattle.ec_select_places.proofs.FarPlaces.{far_places_fit, far_places_are_numbers, far_places_are_in_order}
use Rattle.ec_select_places.proofs.laws.far_places_are_numbers.Goals as goal

pub returns : goal.returns
returns c = record { fit = far_places_fit; equal = far_places_are_numbers; order = far_places_are_in_order }

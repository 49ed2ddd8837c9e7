use Rattle.ec_select_places.proofs.Short.{distances_are_short}
use Rattle.ec_select_places.proofs.Valid.{distances_are_valid, distances_have_no_label}
use Rattle.ec_select_places.proofs.laws.distances_are_formed.Goals as goal

pub returns : goal.returns
returns c = record { short = distances_are_short; valid = distances_are_valid; labels = distances_have_no_label }

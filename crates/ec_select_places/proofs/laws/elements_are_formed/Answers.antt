use Rattle.ec_select_places.proofs.Sized.{elements_are_short, elements_are_valid, elements_have_no_label}
use Rattle.ec_select_places.proofs.laws.elements_are_formed.Goals as goal

pub returns : goal.returns
returns c = record { short = elements_are_short; valid = elements_are_valid; labels = elements_have_no_label }

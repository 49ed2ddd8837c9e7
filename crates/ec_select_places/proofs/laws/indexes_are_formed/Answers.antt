use Rattle.ec_select_places.proofs.Indexed.{indexes_are_short, indexes_are_valid, indexes_have_no_label}
use Rattle.ec_select_places.proofs.laws.indexes_are_formed.Goals as goal

pub returns : goal.returns
returns c = record { short = indexes_are_short; valid = indexes_are_valid; labels = indexes_have_no_label }

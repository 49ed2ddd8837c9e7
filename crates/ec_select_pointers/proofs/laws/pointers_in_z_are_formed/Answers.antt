use Rattle.ec_select_pointers.proofs.InZ.{fetches_are_short, members_are_short, further_is_short, tagged_has}
use Rattle.ec_select_pointers.proofs.InZ.{point_is_short, fetches_are_valid, point_is_valid, members_are_valid}
use Rattle.ec_select_pointers.proofs.InZ.{further_is_valid, fetches_have_no_label, stores_are_short, stores_are_valid}
use Rattle.ec_select_pointers.proofs.laws.pointers_in_z_are_formed.Goals as goal

pub returns : goal.returns
returns c = record {
  fetches = fetches_are_short;
  members = members_are_short;
  further = further_is_short;
  tagged = tagged_has;
  stores = stores_are_short;
  point = point_is_short;
  fetches_valid = fetches_are_valid;
  point_valid = point_is_valid;
  members_valid = members_are_valid;
  further_valid = further_is_valid;
  stores_valid = stores_are_valid;
  labels = fetches_have_no_label;
}

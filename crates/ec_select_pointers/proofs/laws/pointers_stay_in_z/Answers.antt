use Rattle.ec_select_pointers.proofs.InZ.{pointers_are_fetched, z_is_set, members_are_loaded, further_is_loaded}
use Rattle.ec_select_pointers.proofs.InZ.{members_keep_z, members_are_stored}
use Rattle.ec_select_pointers.proofs.laws.pointers_stay_in_z.Goals as goal

pub returns : goal.returns
returns c = record {
  fetched = pointers_are_fetched;
  set = z_is_set;
  loaded = members_are_loaded;
  further = further_is_loaded;
  kept = members_keep_z;
  stored = members_are_stored;
}

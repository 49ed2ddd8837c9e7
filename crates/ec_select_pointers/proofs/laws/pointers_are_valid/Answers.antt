use Rattle.ec_select_pointers.proofs.Valid.{addresses_are_valid, accesses_are_valid, pointers_have_no_label}
use Rattle.ec_select_pointers.proofs.laws.pointers_are_valid.Goals as goal

pub returns : goal.returns
returns c = record { addresses = addresses_are_valid; accesses = accesses_are_valid; labels = pointers_have_no_label }

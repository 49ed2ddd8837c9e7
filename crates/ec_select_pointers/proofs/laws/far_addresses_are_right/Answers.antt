use Rattle.ec_select_pointers.proofs.Addressed.{far_addresses_are_right, far_fields_are_right}
use Rattle.ec_select_pointers.proofs.laws.far_addresses_are_right.Goals as goal

pub returns : goal.returns
returns c = record { addresses = far_addresses_are_right; fields = far_fields_are_right }

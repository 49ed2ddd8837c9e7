use Rattle.ec_select_pointers.proofs.Addressed.{addresses_are_right}
use Rattle.ec_select_pointers.proofs.laws.addresses_are_right.Goals as goal

pub returns : goal.returns
returns c = addresses_are_right

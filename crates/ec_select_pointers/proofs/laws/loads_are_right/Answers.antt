use Rattle.ec_select_pointers.proofs.Accessed.{data_is_loaded, flash_is_loaded}
use Rattle.ec_select_pointers.proofs.laws.loads_are_right.Goals as goal

pub returns : goal.returns
returns c = record { from_data = data_is_loaded c.copies_are_right.ensures; from_flash = flash_is_loaded c.copies_are_right.ensures }

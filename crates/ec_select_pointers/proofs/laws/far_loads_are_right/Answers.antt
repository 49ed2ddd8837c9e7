use Rattle.ec_select_pointers.proofs.FarLoaded.{far_flash_is_loaded, far_table_is_loaded}
use Rattle.ec_select_pointers.proofs.laws.far_loads_are_right.Goals as goal

pub returns : goal.returns
returns c = record { by_pointer = far_flash_is_loaded c.copies_are_right.ensures; by_name = far_table_is_loaded }

use Rattle.ec_select_pointers.proofs.Accessed.{table_is_loaded}
use Rattle.ec_select_pointers.proofs.laws.tables_are_loaded.Goals as goal

pub returns : goal.returns
returns c = table_is_loaded

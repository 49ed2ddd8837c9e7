use Rattle.ec_select_pointers.proofs.Accessed.{data_is_stored}
use Rattle.ec_select_pointers.proofs.laws.stores_are_right.Goals as goal

pub returns : goal.returns
returns c = data_is_stored c.copies_are_right.ensures

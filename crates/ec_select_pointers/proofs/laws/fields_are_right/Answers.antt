use Rattle.ec_select_pointers.proofs.Addressed.{fields_are_right}
use Rattle.ec_select_pointers.proofs.laws.fields_are_right.Goals as goal

pub returns : goal.returns
returns c = fields_are_right

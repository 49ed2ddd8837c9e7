use Rattle.ec_check_names.proofs.Alike.{equal_structs_are_one}
use Rattle.ec_check_names.proofs.laws.equal_structs_are_one.Goals as goal

pub returns : goal.returns
returns c = equal_structs_are_one

use Rattle.ec_check.proofs.Spelled.{structs_are_few}
use Rattle.ec_check.proofs.laws.structs_are_few.Goals as goal

pub returns : goal.returns
returns c = structs_are_few

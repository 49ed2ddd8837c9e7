use Rattle.ec_select_bytes.proofs.Constants.{constants_are_right}
use Rattle.ec_select_bytes.proofs.laws.constants_are_right.Goals as goal

pub returns : goal.returns
returns c = constants_are_right

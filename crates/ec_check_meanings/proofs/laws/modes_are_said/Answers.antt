use Rattle.ec_check_meanings.proofs.NodeModes.{modes_are_said}
use Rattle.ec_check_meanings.proofs.laws.modes_are_said.Goals as goal

pub returns : goal.returns
returns c = modes_are_said

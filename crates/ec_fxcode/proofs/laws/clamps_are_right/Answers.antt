use Rattle.ec_fxcode.proofs.Whole.{clamps_are_right}
use Rattle.ec_fxcode.proofs.laws.clamps_are_right.Goals as goal

pub returns : goal.returns
returns c = clamps_are_right

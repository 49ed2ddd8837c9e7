use Rattle.ec_fxcode.proofs.Whole.{clamps_have}
use Rattle.ec_fxcode.proofs.laws.clamps_are_short.Goals as goal

pub returns : goal.returns
returns c = clamps_have

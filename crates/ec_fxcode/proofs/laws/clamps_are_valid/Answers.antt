use Rattle.ec_fxcode.proofs.ValidItems.{clamps_are_valid}
use Rattle.ec_fxcode.proofs.laws.clamps_are_valid.Goals as goal

pub returns : goal.returns
returns c = clamps_are_valid

use Rattle.ec_fxcode_scales.proofs.Divided.{cuts_are_right}
use Rattle.ec_fxcode_scales.proofs.laws.cuts_are_right.Goals as goal

pub returns : goal.returns
returns c = cuts_are_right

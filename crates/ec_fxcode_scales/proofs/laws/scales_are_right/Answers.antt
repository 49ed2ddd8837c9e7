use Rattle.ec_fxcode_scales.proofs.Scaled.{scales_are_right}
use Rattle.ec_fxcode_scales.proofs.laws.scales_are_right.Goals as goal

pub returns : goal.returns
returns c = scales_are_right

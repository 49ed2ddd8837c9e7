use Rattle.ec_fxcode_scales.proofs.ValidItems.{scales_are_valid}
use Rattle.ec_fxcode_scales.proofs.laws.scales_are_valid.Goals as goal

pub returns : goal.returns
returns c = scales_are_valid

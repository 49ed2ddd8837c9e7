use Rattle.ec_fxcode_scales.proofs.Form.{scales_have}
use Rattle.ec_fxcode_scales.proofs.laws.scales_are_short.Goals as goal

pub returns : goal.returns
returns c = scales_have

use Rattle.ec_fxcode_scales.proofs.Form.{cuts_have}
use Rattle.ec_fxcode_scales.proofs.laws.cuts_are_short.Goals as goal

pub returns : goal.returns
returns c = cuts_have

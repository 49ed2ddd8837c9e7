use Rattle.ec_fxcode_scales.proofs.ValidItems.{cuts_are_valid}
use Rattle.ec_fxcode_scales.proofs.laws.cuts_are_valid.Goals as goal

pub returns : goal.returns
returns c = cuts_are_valid

use Rattle.ec_fxcode_conversions.proofs.Wholes.{wholes_are_right}
use Rattle.ec_fxcode_conversions.proofs.laws.wholes_are_right.Goals as goal

pub returns : goal.returns
returns c = wholes_are_right c.scales_are_right.ensures c.cuts_are_right.ensures

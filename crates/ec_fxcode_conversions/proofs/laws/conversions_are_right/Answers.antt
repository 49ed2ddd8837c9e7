use Rattle.ec_fxcode_conversions.proofs.Converted.{conversions_are_right}
use Rattle.ec_fxcode_conversions.proofs.laws.conversions_are_right.Goals as goal

pub returns : goal.returns
returns c = conversions_are_right c.scales_are_right.ensures c.cuts_are_right.ensures c.clamps_are_right.ensures

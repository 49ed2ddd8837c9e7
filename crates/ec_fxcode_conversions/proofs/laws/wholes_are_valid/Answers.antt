use Rattle.ec_fxcode_conversions.proofs.ValidItems.{wholes_are_valid}
use Rattle.ec_fxcode_conversions.proofs.laws.wholes_are_valid.Goals as goal

pub returns : goal.returns
returns c = wholes_are_valid c.scales_are_valid.ensures c.cuts_are_valid.ensures c.clamps_are_valid.ensures

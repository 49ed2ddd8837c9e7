use Rattle.ec_fxcode_conversions.proofs.Multiplied.{products_are_right}
use Rattle.ec_fxcode_conversions.proofs.laws.products_are_right.Goals as goal

pub returns : goal.returns
returns c = products_are_right c.products_are_right.ensures c.scales_are_right.ensures c.cuts_are_right.ensures c.clamps_are_right.ensures

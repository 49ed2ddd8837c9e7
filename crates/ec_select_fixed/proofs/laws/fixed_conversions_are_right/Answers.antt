use Rattle.ec_select_fixed.proofs.Conversions.{conversions_are_right}
use Rattle.ec_select_fixed.proofs.laws.fixed_conversions_are_right.Goals as goal

pub returns : goal.returns
returns c = conversions_are_right c.conversions_are_right.ensures c.wholes_are_right.ensures

use Rattle.ec_select_fixed.proofs.Sizes.{conversions_have}
use Rattle.ec_select_fixed.proofs.laws.fixed_conversions_are_short.Goals as goal

pub returns : goal.returns
returns c = conversions_have c.conversions_are_short.ensures c.wholes_are_short.ensures

use Rattle.ec_fxcode_limits.proofs.Limited.{limited_sums_are_right}
use Rattle.ec_fxcode_limits.proofs.laws.limited_sums_are_right.Goals as goal

pub returns : goal.returns
returns c = limited_sums_are_right

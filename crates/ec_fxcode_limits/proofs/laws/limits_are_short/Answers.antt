use Rattle.ec_fxcode_limits.proofs.Limited.{limits_have}
use Rattle.ec_fxcode_limits.proofs.laws.limits_are_short.Goals as goal

pub returns : goal.returns
returns c = limits_have

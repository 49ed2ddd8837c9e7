use Rattle.ec_fxcode_limits.proofs.Opposite.{opposites_are_right}
use Rattle.ec_fxcode_limits.proofs.laws.opposites_are_right.Goals as goal

pub returns : goal.returns
returns c = opposites_are_right

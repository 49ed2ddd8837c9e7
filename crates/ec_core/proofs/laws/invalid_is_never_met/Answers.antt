use Rattle.ec_core.proofs.Depths.{invalid_is_never_met}
use Rattle.ec_core.proofs.laws.invalid_is_never_met.Goals as goal

pub returns : goal.returns
returns c = invalid_is_never_met

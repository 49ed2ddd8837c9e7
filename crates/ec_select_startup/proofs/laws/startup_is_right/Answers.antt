use Rattle.ec_select_startup.proofs.Whole.{startup_is_right}
use Rattle.ec_select_startup.proofs.laws.startup_is_right.Goals as goal

pub returns : goal.returns
returns c = startup_is_right

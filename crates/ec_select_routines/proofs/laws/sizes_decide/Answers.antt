use Rattle.ec_select_routines.proofs.Sizes.{sizes_decide}
use Rattle.ec_select_routines.proofs.laws.sizes_decide.Goals as goal

pub returns : goal.returns
returns g c = sizes_decide _ _

use Rattle.ec_core.proofs.Runs.{work_never_falls}
use Rattle.ec_core.proofs.laws.work_never_falls.Goals as goal

pub returns : goal.returns
returns c = work_never_falls

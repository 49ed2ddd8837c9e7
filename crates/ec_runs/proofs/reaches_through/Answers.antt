use Rattle.ec_runs.proofs.Runs.{reaches_through}
use Rattle.ec_runs.proofs.reaches_through.Goals as goal

pub returns : goal.returns
returns g c = reaches_through _ _ _ _ _

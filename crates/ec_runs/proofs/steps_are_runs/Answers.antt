use Rattle.ec_runs.proofs.Runs.{steps_are_runs}
use Rattle.ec_runs.proofs.steps_are_runs.Goals as goal

pub returns : goal.returns
returns g c = steps_are_runs _ _ _ _

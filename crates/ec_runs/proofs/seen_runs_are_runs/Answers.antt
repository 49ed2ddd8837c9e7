use Rattle.ec_runs.proofs.Runs.{seen_runs_are_runs}
use Rattle.ec_runs.proofs.seen_runs_are_runs.Goals as goal

pub returns : goal.returns
returns g c = seen_runs_are_runs _ _ _ _

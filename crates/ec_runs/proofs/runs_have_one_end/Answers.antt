use Rattle.ec_runs.proofs.Runs.{runs_have_one_end}
use Rattle.ec_runs.proofs.runs_have_one_end.Goals as goal

pub returns : goal.returns
returns g c = runs_have_one_end _ _ _

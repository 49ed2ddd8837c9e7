use Rattle.ec_runs.proofs.Runs.{reaches_as_seen}
use Rattle.ec_runs.proofs.reaches_as_seen.Goals as goal

pub returns : goal.returns
returns g c = reaches_as_seen _ _ _ _ _

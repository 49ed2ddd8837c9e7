use Rattle.ec_runs.proofs.Runs.{what_reaches_stays_within}
use Rattle.ec_runs.proofs.what_reaches_stays_within.Goals as goal

pub returns : goal.returns
returns g c = what_reaches_stays_within _ _ _ _

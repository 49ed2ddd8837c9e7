use Rattle.ec_runs.proofs.Runs.{steps_join, many_join}
use Rattle.ec_runs.proofs.steps_join.Goals as goal

pub returns-clause-steps : goal.returns-clause-steps
returns-clause-steps g c = steps_join _ _ _ _

pub returns-clause-many : goal.returns-clause-many
returns-clause-many g c = many_join _ _ _ _

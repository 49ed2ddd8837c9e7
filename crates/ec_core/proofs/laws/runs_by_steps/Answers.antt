use Rattle.ec_core.proofs.Runs.{runs_lead}
use Rattle.ec_core.proofs.laws.runs_by_steps.Goals as goal

pub returns : goal.returns
returns c = runs_lead

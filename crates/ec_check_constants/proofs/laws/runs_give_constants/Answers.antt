use Rattle.ec_check_constants.proofs.Runs.{runs_give}
use Rattle.ec_check_constants.proofs.laws.runs_give_constants.Goals as goal

pub returns : goal.returns
returns c = runs_give

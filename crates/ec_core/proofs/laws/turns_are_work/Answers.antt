use Rattle.ec_core.proofs.Runs.{turns_are_work}
use Rattle.ec_core.proofs.laws.turns_are_work.Goals as goal

pub returns : goal.returns
returns c = turns_are_work

use Rattle.ec_ir.proofs.Runs.{steps_never_fall}
use Rattle.ec_ir.proofs.laws.steps_never_fall.Goals as goal

pub returns : goal.returns
returns c = steps_never_fall

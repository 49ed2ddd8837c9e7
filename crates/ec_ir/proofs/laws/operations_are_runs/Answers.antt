use Rattle.ec_ir.proofs.Runs.{operations_are_runs}
use Rattle.ec_ir.proofs.laws.operations_are_runs.Goals as goal

pub returns : goal.returns
returns c = operations_are_runs

use Rattle.ec_core.proofs.Runs.{registers_are_silent}
use Rattle.ec_core.proofs.laws.registers_are_silent.Goals as goal

pub returns : goal.returns
returns c = registers_are_silent

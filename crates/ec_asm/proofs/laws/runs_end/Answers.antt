use Rattle.ec_asm.proofs.Ending.{runs_end}
use Rattle.ec_asm.proofs.laws.runs_end.Goals as goal

pub returns : goal.returns
returns c = runs_end

use Rattle.ec_asm.proofs.Halved.{halves_are_right}
use Rattle.ec_asm.proofs.laws.halves_are_right.Goals as goal

pub returns : goal.returns
returns c = halves_are_right

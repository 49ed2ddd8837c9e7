use Rattle.ec_asm.proofs.Compared.{copy_holds}
use Rattle.ec_asm.proofs.laws.copies_are_right.Goals as goal

pub returns : goal.returns
returns c = copy_holds

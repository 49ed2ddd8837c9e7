use Rattle.ec_asm.proofs.Hoare.{has_parts}
use Rattle.ec_asm.proofs.laws.parts_stand.Goals as goal

pub returns : goal.returns
returns c = has_parts

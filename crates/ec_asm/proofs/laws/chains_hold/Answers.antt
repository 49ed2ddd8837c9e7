use Rattle.ec_asm.proofs.Hoare.{chains_hold}
use Rattle.ec_asm.proofs.laws.chains_hold.Goals as goal

pub returns : goal.returns
returns g c = chains_hold _

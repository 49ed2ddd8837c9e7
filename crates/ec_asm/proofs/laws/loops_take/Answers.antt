use Rattle.ec_asm.proofs.Takes.{loop_takes}
use Rattle.ec_asm.proofs.laws.loops_take.Goals as goal

pub returns : goal.returns
returns g c = loop_takes _

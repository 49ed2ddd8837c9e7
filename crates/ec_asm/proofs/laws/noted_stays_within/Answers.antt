use Rattle.ec_asm.proofs.Behaves.{stays_within}
use Rattle.ec_asm.proofs.laws.noted_stays_within.Goals as goal

pub returns : goal.returns
returns g c = λ e inputs s allowed upper r m. stays_within c.runs_are_steps.ensures.run e inputs s allowed upper r m

use Rattle.ec_avr.proofs.SameRun.{same_run}
use Rattle.ec_avr.proofs.laws.run_as_far_as_read.Goals as goal

pub returns : goal.returns
returns c = same_run

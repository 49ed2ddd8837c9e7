use Rattle.ec_avr.proofs.PortRead.{read_access-step}
use Rattle.ec_avr.proofs.laws.step_reads_what_is_answered.Goals as goal

pub returns : goal.returns
returns c = read_access-step

use Rattle.ec_avr_accesses.proofs.Laws.{runs_change_as_told}
use Rattle.ec_avr_accesses.proofs.runs_change_as_told.Goals as goal

pub returns : goal.returns
returns c = runs_change_as_told c.stack_bytes_are_told.ensures.alone

use Rattle.ec_core_numbers.proofs.Walk.{writes_hold_numbers}
use Rattle.ec_core_numbers.proofs.writes_hold_numbers.Goals as goal

pub returns : goal.returns
returns c = writes_hold_numbers c.types_are_kept.ensures

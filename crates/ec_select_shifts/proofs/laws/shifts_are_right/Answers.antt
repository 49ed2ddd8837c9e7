use Rattle.ec_select_shifts.proofs.Loops.{shifts_are_right}
use Rattle.ec_select_shifts.proofs.laws.shifts_are_right.Goals as goal

pub returns : goal.returns
returns c = shifts_are_right

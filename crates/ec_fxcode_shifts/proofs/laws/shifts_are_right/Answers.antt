use Rattle.ec_fxcode_shifts.proofs.Whole.{shifts_are_right}
use Rattle.ec_fxcode_shifts.proofs.laws.shifts_are_right.Goals as goal

pub returns : goal.returns
returns c = shifts_are_right

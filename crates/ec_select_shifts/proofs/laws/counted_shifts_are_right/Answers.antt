use Rattle.ec_select_shifts.proofs.Counted.{counted_shifts_are_right}
use Rattle.ec_select_shifts.proofs.laws.counted_shifts_are_right.Goals as goal

pub returns : goal.returns
returns c = counted_shifts_are_right

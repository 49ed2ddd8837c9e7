use Rattle.ec_fxcode_shifts.proofs.ValidItems.{shifts_are_valid}
use Rattle.ec_fxcode_shifts.proofs.laws.shifts_are_valid.Goals as goal

pub returns : goal.returns
returns c = shifts_are_valid

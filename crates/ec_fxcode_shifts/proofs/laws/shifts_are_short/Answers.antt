use Rattle.ec_fxcode_shifts.proofs.Steps.{shifts_have}
use Rattle.ec_fxcode_shifts.proofs.laws.shifts_are_short.Goals as goal

pub returns : goal.returns
returns c = shifts_have

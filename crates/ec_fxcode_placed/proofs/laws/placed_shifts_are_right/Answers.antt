use Rattle.ec_fxcode_placed.proofs.Shifted.{placed_shifts_are_right}
use Rattle.ec_fxcode_placed.proofs.laws.placed_shifts_are_right.Goals as goal

pub returns : goal.returns
returns c = placed_shifts_are_right

use Rattle.ec_fxcode_placed.proofs.Words.{placed_shifts_have}
use Rattle.ec_fxcode_placed.proofs.laws.placed_shifts_have.Goals as goal

pub returns : goal.returns
returns c = placed_shifts_have

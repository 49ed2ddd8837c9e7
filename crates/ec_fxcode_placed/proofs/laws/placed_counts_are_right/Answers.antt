use Rattle.ec_fxcode_placed.proofs.Counted.{placed_counts_are_right}
use Rattle.ec_fxcode_placed.proofs.laws.placed_counts_are_right.Goals as goal

pub returns : goal.returns
returns c = placed_counts_are_right

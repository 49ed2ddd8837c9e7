use Rattle.ec_lower_shapes.proofs.Whole.{lowered_counts}
use Rattle.ec_lower_shapes.proofs.lowered_counts_by_shapes.Goals as goal

pub returns : goal.returns
returns c = lowered_counts

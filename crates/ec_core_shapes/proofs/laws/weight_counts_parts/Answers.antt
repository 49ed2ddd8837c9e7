use Rattle.ec_core_shapes.proofs.Counted.{weight_counts}
use Rattle.ec_core_shapes.proofs.laws.weight_counts_parts.Goals as goal

pub returns : goal.returns
returns c = weight_counts

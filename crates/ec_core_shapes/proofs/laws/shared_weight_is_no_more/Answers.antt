use Rattle.ec_core_shapes.proofs.Counted.{shared_is_no_more}
use Rattle.ec_core_shapes.proofs.laws.shared_weight_is_no_more.Goals as goal

pub returns : goal.returns
returns c = shared_is_no_more

use Rattle.ec_core_shapes.proofs.Told.{shapes_told}
use Rattle.ec_core_shapes.proofs.laws.shapes_are_told.Goals as goal

pub returns : goal.returns
returns c = shapes_told

use Rattle.ec_select_operations.proofs.OneRoutine.{one_shape_has_one_routine}
use Rattle.ec_select_operations.proofs.laws.one_shape_has_one_routine.Goals as goal

pub returns : goal.returns
returns c = one_shape_has_one_routine c.shapes_are_told.ensures

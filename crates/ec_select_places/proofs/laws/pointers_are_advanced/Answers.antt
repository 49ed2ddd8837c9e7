use Rattle.ec_select_places.proofs.Advanced.{pointers_are_advanced}
use Rattle.ec_select_places.proofs.laws.pointers_are_advanced.Goals as goal

pub returns : goal.returns
returns c = pointers_are_advanced c.operators_are_right.ensures.sum c.operators_are_right.ensures.difference

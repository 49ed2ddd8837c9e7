use Rattle.ec_select_fixed.proofs.Unaries.{unaries_are_right}
use Rattle.ec_select_fixed.proofs.laws.fixed_unaries_are_right.Goals as goal

pub returns : goal.returns
returns c = unaries_are_right c.negations_are_right.ensures

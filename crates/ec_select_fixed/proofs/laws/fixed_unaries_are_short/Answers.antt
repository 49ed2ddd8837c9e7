use Rattle.ec_select_fixed.proofs.Sizes.{unaries_have}
use Rattle.ec_select_fixed.proofs.laws.fixed_unaries_are_short.Goals as goal

pub returns : goal.returns
returns c = unaries_have c.negations_are_short.ensures

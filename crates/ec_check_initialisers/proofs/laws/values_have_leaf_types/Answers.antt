use Rattle.ec_check_initialisers.proofs.LocalLeaves.{values_fit}
use Rattle.ec_check_initialisers.proofs.laws.values_have_leaf_types.Goals as goal

pub returns : goal.returns
returns c = values_fit c.structs_are_laid_out.ensures c.leaves_fill_their_types.ensures c.types_are_told.ensures

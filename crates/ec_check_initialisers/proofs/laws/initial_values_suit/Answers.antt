use Rattle.ec_check_initialisers.proofs.StaticLeaves.{initial_values_suit}
use Rattle.ec_check_initialisers.proofs.laws.initial_values_suit.Goals as goal

pub returns : goal.returns
returns c =
    initial_values_suit c.structs_are_laid_out.ensures c.leaves_fill_their_types.ensures c.types_are_told.ensures
    c.tests_tell_constants.ensures

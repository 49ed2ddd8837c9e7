use Rattle.ec_check_initialisers.proofs.Numbers.{sizes_are}
use Rattle.ec_check_initialisers.proofs.laws.sizes_are_values.Goals as goal

pub returns : goal.returns
returns c = sizes_are c.tests_tell_constants.ensures

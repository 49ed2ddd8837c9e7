use Rattle.ec_check_initialisers.proofs.NoPointers.{constants_are_no_pointers}
use Rattle.ec_check_initialisers.proofs.laws.constants_are_no_pointers.Goals as goal

pub returns : goal.returns
returns c = constants_are_no_pointers

use Rattle.ec_check_initialisers.proofs.StaticNumbers.{numbers_are}
use Rattle.ec_check_initialisers.proofs.laws.static_numbers_are_values.Goals as goal

pub returns : goal.returns
returns c = numbers_are c.tests_tell_constants.ensures c.runs_give_constants.ensures

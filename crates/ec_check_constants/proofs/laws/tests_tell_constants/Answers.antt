use Rattle.ec_check_constants.proofs.Tests.{tells_constants}
use Rattle.ec_check_constants.proofs.laws.tests_tell_constants.Goals as goal

pub returns : goal.returns
returns c = tells_constants c.types_are_told.ensures

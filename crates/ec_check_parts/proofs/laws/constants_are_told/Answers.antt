use Rattle.ec_check_parts.proofs.ConstantForms.{constants_are_told}
use Rattle.ec_check_parts.proofs.laws.constants_are_told.Goals as goal

pub returns : goal.returns
returns c = constants_are_told c.walk_gives_meanings.ensures

use Rattle.ec_check_parts.proofs.Types.{types_are_said}
use Rattle.ec_check_parts.proofs.laws.types_are_said.Goals as goal

pub returns : goal.returns
returns c = types_are_said

use Rattle.ec_check_expression_laws.proofs.KeptTypes.{kept_types_are_said}
use Rattle.ec_check_expression_laws.proofs.laws.kept_types_are_said.Goals as goal

pub returns : goal.returns
returns c = kept_types_are_said

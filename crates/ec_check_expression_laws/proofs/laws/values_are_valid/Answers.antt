use Rattle.ec_check_expression_laws.proofs.ValidValues.{values_are_valid}
use Rattle.ec_check_expression_laws.proofs.laws.values_are_valid.Goals as goal

pub returns : goal.returns
returns c = values_are_valid

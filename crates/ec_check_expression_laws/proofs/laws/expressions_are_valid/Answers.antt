use Rattle.ec_check_expression_laws.proofs.ValidExpressions.{expressions_are_valid}
use Rattle.ec_check_expression_laws.proofs.laws.expressions_are_valid.Goals as goal

pub returns : goal.returns
returns c = expressions_are_valid c.forms_stay_valid.ensures c.names_are_valid.ensures c.sizes_are_valid.ensures

use Rattle.ec_check_expression_laws.proofs.FunctionNames.{only_functions_are_called}
use Rattle.ec_check_expression_laws.proofs.laws.only_functions_are_called.Goals as goal

pub returns : goal.returns
returns c = only_functions_are_called

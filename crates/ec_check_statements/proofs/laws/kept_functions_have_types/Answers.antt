use Rattle.ec_check_statements.proofs.FunctionTypes.{kept_functions_have_types}
use Rattle.ec_check_statements.proofs.laws.kept_functions_have_types.Goals as goal

pub returns : goal.returns
returns c = kept_functions_have_types c.kept_types_are_said.ensures

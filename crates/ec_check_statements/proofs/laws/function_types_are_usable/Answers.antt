use Rattle.ec_check_statements.proofs.FunctionTypes.{function_types_are_usable}
use Rattle.ec_check_statements.proofs.laws.function_types_are_usable.Goals as goal

pub returns : goal.returns
returns c = function_types_are_usable c.said_types_are_placed.ensures

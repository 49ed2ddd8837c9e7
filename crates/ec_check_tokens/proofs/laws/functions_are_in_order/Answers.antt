use Rattle.ec_check_tokens.proofs.Functions.{functions_are_in_order}
use Rattle.ec_check_tokens.proofs.laws.functions_are_in_order.Goals as goal

pub returns : goal.returns
returns c = functions_are_in_order c.programs_are_typed.ensures

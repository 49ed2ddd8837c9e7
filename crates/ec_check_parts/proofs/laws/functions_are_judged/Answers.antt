use Rattle.ec_check_parts.proofs.Functions.{functions_are_judged}
use Rattle.ec_check_parts.proofs.laws.functions_are_judged.Goals as goal

pub returns : goal.returns
returns c = functions_are_judged

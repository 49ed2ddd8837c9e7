use Rattle.ec_check_parts.proofs.Specifiers.{specifiers_are_judged}
use Rattle.ec_check_parts.proofs.laws.specifiers_are_judged.Goals as goal

pub returns : goal.returns
returns c = specifiers_are_judged

use Rattle.ec_check_expression_laws.proofs.NeedTokens.{needs_are_bounded}
use Rattle.ec_check_expression_laws.proofs.laws.needs_are_bounded.Goals as goal

pub returns : goal.returns
returns c = needs_are_bounded

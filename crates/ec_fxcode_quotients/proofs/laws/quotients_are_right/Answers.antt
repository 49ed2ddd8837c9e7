use Rattle.ec_fxcode_quotients.proofs.Whole.{quotients_are_right}
use Rattle.ec_fxcode_quotients.proofs.laws.quotients_are_right.Goals as goal

pub returns : goal.returns
returns c = quotients_are_right

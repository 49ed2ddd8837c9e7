use Rattle.ec_select_quotients.proofs.Signed.{quotients_are_right}
use Rattle.ec_select_quotients.proofs.laws.quotients_are_right.Goals as goal

pub returns : goal.returns
returns c = quotients_are_right

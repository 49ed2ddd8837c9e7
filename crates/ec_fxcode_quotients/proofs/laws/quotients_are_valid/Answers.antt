use Rattle.ec_fxcode_quotients.proofs.ValidItems.{quotients_are_valid}
use Rattle.ec_fxcode_quotients.proofs.laws.quotients_are_valid.Goals as goal

pub returns : goal.returns
returns c = quotients_are_valid

use Rattle.ec_fxcode_quotients.proofs.Steps.{quotients_have}
use Rattle.ec_fxcode_quotients.proofs.laws.quotients_are_short.Goals as goal

pub returns : goal.returns
returns c = quotients_have

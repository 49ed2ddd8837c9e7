use Rattle.ec_core.proofs.Suiting.{operands_suit}
use Rattle.ec_core.proofs.laws.operands_suit.Goals as goal

pub returns : goal.returns
returns c = operands_suit

use Rattle.ec_lower_code.proofs.Whole.{follows}
use Rattle.ec_lower_code.proofs.laws.lowered_follows.Goals as goal

pub returns : goal.returns
returns c = follows

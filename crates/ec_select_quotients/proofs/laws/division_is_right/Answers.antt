use Rattle.ec_select_quotients.proofs.Loops.{division_is_right}
use Rattle.ec_select_quotients.proofs.laws.division_is_right.Goals as goal

pub returns : goal.returns
returns c = division_is_right

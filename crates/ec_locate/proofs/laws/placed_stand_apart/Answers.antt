use Rattle.ec_locate.proofs.StandApart.{stand-apart}
use Rattle.ec_locate.proofs.laws.placed_stand_apart.Goals as goal

pub returns : goal.returns
returns c = stand-apart

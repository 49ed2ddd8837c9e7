use Rattle.ec_locate.proofs.Causes.{stops-have-causes}
use Rattle.ec_locate.proofs.laws.stops_have_causes.Goals as goal

pub returns : goal.returns
returns c = stops-have-causes

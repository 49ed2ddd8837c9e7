use Rattle.ec_locate.proofs.Longest.{chains-are-counted}
use Rattle.ec_locate.proofs.laws.chains_are_counted.Goals as goal

pub returns : goal.returns
returns c = chains-are-counted

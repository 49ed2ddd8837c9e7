use Rattle.ec_check_parts.proofs.Mains.{mains_are_found}
use Rattle.ec_check_parts.proofs.laws.mains_are_found.Goals as goal

pub returns : goal.returns
returns c = mains_are_found

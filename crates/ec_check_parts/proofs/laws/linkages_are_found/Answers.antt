use Rattle.ec_check_parts.proofs.Linkages.{linkages_are_found}
use Rattle.ec_check_parts.proofs.laws.linkages_are_found.Goals as goal

pub returns : goal.returns
returns c = linkages_are_found

use Rattle.ec_check_meanings.proofs.SitesOf.{sites_are_judged}
use Rattle.ec_check_meanings.proofs.laws.sites_are_judged.Goals as goal

pub returns : goal.returns
returns c = sites_are_judged c.types_are_told.ensures

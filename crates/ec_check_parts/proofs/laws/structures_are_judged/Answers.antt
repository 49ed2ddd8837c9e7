use Rattle.ec_check_parts.proofs.Structures.{structures_are_judged}
use Rattle.ec_check_parts.proofs.laws.structures_are_judged.Goals as goal

pub returns : goal.returns
returns c =
    structures_are_judged
    (record {
      meanings = c.walk_gives_meanings.ensures;
      sites = c.sites_are_judged.ensures;
      constraints = c.constraints_are_told.ensures;
      types = c.types_are_told.ensures;
    })
    c.the_least_is_told.ensures

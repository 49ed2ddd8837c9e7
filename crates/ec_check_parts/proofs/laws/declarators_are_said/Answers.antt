use Rattle.ec_check_parts.proofs.Declared.{declarators_are_said}
use Rattle.ec_check_parts.proofs.laws.declarators_are_said.Goals as goal

pub returns : goal.returns
returns c =
    declarators_are_said
    (record {
      meanings = c.walk_gives_meanings.ensures;
      sites = c.sites_are_judged.ensures;
      constraints = c.constraints_are_told.ensures;
      types = c.types_are_told.ensures;
    })

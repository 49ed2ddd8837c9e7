use Rattle.ec_check_parts.proofs.Structures.{structs_are_declared}
use Rattle.ec_check_parts.proofs.laws.structs_are_declared.Goals as goal

pub returns : goal.returns
returns c =
    structs_are_declared
    (record {
      meanings = c.walk_gives_meanings.ensures;
      sites = c.sites_are_judged.ensures;
      constraints = c.constraints_are_told.ensures;
      types = c.types_are_told.ensures;
    })
    c.the_least_is_told.ensures

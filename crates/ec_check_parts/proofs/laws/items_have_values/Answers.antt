use Rattle.ec_check_parts.proofs.Items.{items_have_values}
use Rattle.ec_check_parts.proofs.laws.items_have_values.Goals as goal

pub returns : goal.returns
returns c =
    items_have_values
    (record {
      meanings = c.walk_gives_meanings.ensures;
      sites = c.sites_are_judged.ensures;
      constraints = c.constraints_are_told.ensures;
      types = c.types_are_told.ensures;
    })

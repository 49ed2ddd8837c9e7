use Rattle.ec_build_laws.proofs.Shorter.{shortened_is_valid}
use Rattle.ec_build_laws.proofs.laws.shortened_code_is_valid.Goals as goal

pub returns : goal.returns
returns c =
    shortened_is_valid c.based_items_are_valid.ensures.program c.near_items_are_valid.ensures.program c.based_items_are_short.ensures
    c.near_items_are_short.ensures.less

use Rattle.ec_check_typed.proofs.Values.{initialisers_are_said}
use Rattle.ec_check_typed.proofs.laws.initialisers_are_said.Goals as goal

pub returns : goal.returns
returns c =
    initialisers_are_said
    (record { told = c.types_are_told.ensures; meanings = c.walk_gives_meanings.ensures; items = c.items_have_values.ensures })

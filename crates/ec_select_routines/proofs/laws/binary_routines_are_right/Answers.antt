use Rattle.ec_select_routines.proofs.Bodies.{binary_routines_are_right}
use Rattle.ec_select_routines.proofs.laws.binary_routines_are_right.Goals as goal

pub returns : goal.returns
returns c =
    binary_routines_are_right (record { return = c.calls_return.ensures.whole; parts = c.parts_stand.ensures })
    c.fixed_binaries_are_right.ensures

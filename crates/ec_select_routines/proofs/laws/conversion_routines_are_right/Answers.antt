use Rattle.ec_select_routines.proofs.Bodies.{conversion_routines_are_right}
use Rattle.ec_select_routines.proofs.laws.conversion_routines_are_right.Goals as goal

pub returns : goal.returns
returns c =
    conversion_routines_are_right (record { return = c.calls_return.ensures.whole; parts = c.parts_stand.ensures })
    c.fixed_conversions_are_right.ensures

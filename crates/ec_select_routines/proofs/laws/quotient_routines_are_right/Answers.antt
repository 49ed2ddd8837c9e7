use Rattle.ec_select_routines.proofs.Bodies.{quotient_routines_are_right}
use Rattle.ec_select_routines.proofs.laws.quotient_routines_are_right.Goals as goal

pub returns : goal.returns
returns c =
    quotient_routines_are_right (record { return = c.calls_return.ensures.whole; parts = c.parts_stand.ensures })
    c.quotients_are_right.ensures

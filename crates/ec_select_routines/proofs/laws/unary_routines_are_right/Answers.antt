use Rattle.ec_select_routines.proofs.Bodies.{unary_routines_are_right}
use Rattle.ec_select_routines.proofs.laws.unary_routines_are_right.Goals as goal

pub returns : goal.returns
returns c =
    unary_routines_are_right (record { return = c.calls_return.ensures.whole; parts = c.parts_stand.ensures })
    c.fixed_unaries_are_right.ensures

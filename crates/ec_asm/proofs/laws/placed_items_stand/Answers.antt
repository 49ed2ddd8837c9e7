use Rattle.ec_asm.proofs.Placed.{items_stand}
use Rattle.ec_asm.proofs.laws.placed_items_stand.Goals as goal

pub returns : goal.returns
returns c = items_stand (record { is = c.steps_are_of_instructions.ensures.instruction; whole = c.steps_are_of_instructions.ensures.whole })

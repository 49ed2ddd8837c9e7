use Rattle.ec_asm.proofs.Stack.{stack_stays_inside}
use Rattle.ec_asm.proofs.laws.stack_stays_inside.Goals as goal

pub returns : goal.returns
returns c = stack_stays_inside (record {
  one_bit = c.one_bit_is_set.ensures;
  steps = c.steps_are_of_instructions.ensures.step;
  needs = c.steps_are_of_instructions.ensures.port;
})

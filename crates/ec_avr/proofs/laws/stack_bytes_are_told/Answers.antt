use Rattle.ec_avr.proofs.Stack.{stack_is_inside, others_leave_the_stack, pushes_there_alone}
use Rattle.ec_avr.proofs.laws.stack_bytes_are_told.Goals as goal

pub returns : goal.returns
returns c = record { inside = stack_is_inside; others = others_leave_the_stack; alone = pushes_there_alone }

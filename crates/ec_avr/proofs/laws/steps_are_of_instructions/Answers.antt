use Rattle.ec_avr.proofs.Placed.{is_what_stands, stands_whole, steps_by_instruction, needs_by_instruction, step_keeps}
use Rattle.ec_avr.proofs.laws.steps_are_of_instructions.Goals as goal

pub returns : goal.returns
returns c = record {
  instruction = is_what_stands;
  whole = stands_whole;
  step = steps_by_instruction;
  port = needs_by_instruction;
  keeps = step_keeps;
}

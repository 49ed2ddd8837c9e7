use Rattle.ec_avr_accesses.proofs.Laws.{nothing_else_changes, written_bytes_stand, stack_steps_have_bytes}
use Rattle.ec_avr_accesses.proofs.steps_change_as_told.Goals as goal

pub returns : goal.returns
returns c = record {
  others = nothing_else_changes c.stack_bytes_are_told.ensures.alone;
  written = written_bytes_stand;
  stack = stack_steps_have_bytes;
}

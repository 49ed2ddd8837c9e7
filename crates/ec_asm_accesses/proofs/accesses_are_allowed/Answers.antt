use Rattle.ec_asm_accesses.proofs.Allowed.{accesses_are_allowed}
use Rattle.ec_asm_accesses.proofs.accesses_are_allowed.Goals as goal

pub returns : goal.returns
returns c = accesses_are_allowed (record {
  views = c.machine_runs_as_view.ensures;
  steps = c.steps_are_of_instructions.ensures.step;
})

use Rattle.ec_asm.proofs.Machine.{runs_as}
use Rattle.ec_asm.proofs.laws.machine_runs_as_view.Goals as goal

pub returns : goal.returns
returns c = λ e size m s v fit h. runs_as (record {
  one_bit = c.one_bit_is_set.ensures;
  steps = c.steps_are_of_instructions.ensures.step;
  needs = c.steps_are_of_instructions.ensures.port;
}) e size fit m s v h

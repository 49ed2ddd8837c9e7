use Rattle.ec_asm.proofs.Behaves.{noted_is_run, goes_on_noted, ends_noted}
use Rattle.ec_asm.proofs.laws.noted_runs_are_runs.Goals as goal

pub returns : goal.returns
returns c = record {
  run = noted_is_run c.runs_are_steps.ensures.run;
  on = λ e size m pc s v w p g. goes_on_noted e size m v s pc w p g;
  end = λ e size m s v w p g. ends_noted e size m v s w p g;
}

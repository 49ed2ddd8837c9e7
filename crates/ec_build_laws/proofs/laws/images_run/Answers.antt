use Rattle.ec_build_laws.proofs.Ran.{images_run}
use Rattle.ec_build_laws.proofs.laws.images_run.Goals as goal

pub returns : goal.returns
returns c = images_run (record {
  begin = record {
    steps = c.steps_are_of_instructions.ensures.step;
    views = c.machine_runs_as_view.ensures;
    stack = c.stack_stays_inside.ensures;
  };
  fit = c.kinds_are_told.ensures.fit;
  laid = c.placed_are_laid_out.ensures;
  made = c.lowered_is_made_of_its_program.ensures;
  run = c.selections_run.ensures;
})

use Rattle.ec_select_reset.proofs.Reset.{programs_show_their_operations}
use Rattle.ec_select_reset.proofs.laws.programs_show_their_operations.Goals as goal

pub returns : goal.returns
returns c =
    programs_show_their_operations
    (record {
      startup = c.startup_is_right.ensures;
      views = c.machine_runs_as_view.ensures;
      follows = c.code_follows_operations.ensures;
      allowed = c.accesses_are_allowed.ensures;
      steps = c.steps_are_of_instructions.ensures.step;
    })

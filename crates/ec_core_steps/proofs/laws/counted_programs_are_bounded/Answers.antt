use Rattle.ec_core_steps.proofs.Programs.{bounded}
use Rattle.ec_core_steps.proofs.laws.counted_programs_are_bounded.Goals as goal

pub returns : goal.returns
returns c = bounded c.runs_give_constants.ensures c.tests_tell_constants.ensures c.work_never_falls.ensures

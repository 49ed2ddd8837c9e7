use Rattle.ec_judge_files.proofs.Machines.{comes_alike}
use Rattle.ec_judge_files.proofs.laws.judged_runs_are_the_machines.Goals as goal

pub returns : goal.returns
returns c = comes_alike c.images_show_their_sources.ensures

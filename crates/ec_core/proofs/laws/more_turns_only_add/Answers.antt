use Rattle.ec_core.proofs.Runs.{more_turns_only_add}
use Rattle.ec_core.proofs.laws.more_turns_only_add.Goals as goal

pub returns : goal.returns
returns c = more_turns_only_add

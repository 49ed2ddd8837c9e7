use Rattle.ec_core.proofs.Runs.{parts_only_add}
use Rattle.ec_core.proofs.laws.parts_only_add.Goals as goal

pub returns : goal.returns
returns c = parts_only_add

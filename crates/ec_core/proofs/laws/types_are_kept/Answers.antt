use Rattle.ec_core.proofs.TypedRuns.{types_are_kept}
use Rattle.ec_core.proofs.laws.types_are_kept.Goals as goal

pub returns : goal.returns
returns c = types_are_kept

use Rattle.ec_core.proofs.Sameness.{types_are_told}
use Rattle.ec_core.proofs.laws.types_are_told.Goals as goal

pub returns : goal.returns
returns c = types_are_told

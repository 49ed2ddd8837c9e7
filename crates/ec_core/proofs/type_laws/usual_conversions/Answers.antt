use Rattle.ec_core.proofs.Conversions.{usual_conversions}
use Rattle.ec_core.proofs.type_laws.usual_conversions.Goals as goal

pub returns : goal.returns
returns c = usual_conversions

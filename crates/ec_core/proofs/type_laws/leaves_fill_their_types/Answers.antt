use Rattle.ec_core.proofs.Filled.{leaves_fill_their_types}
use Rattle.ec_core.proofs.type_laws.leaves_fill_their_types.Goals as goal

pub returns : goal.returns
returns c = leaves_fill_their_types

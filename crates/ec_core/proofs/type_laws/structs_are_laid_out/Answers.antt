use Rattle.ec_core.proofs.StructLists.{structs_are_laid_out}
use Rattle.ec_core.proofs.type_laws.structs_are_laid_out.Goals as goal

pub returns : goal.returns
returns c = structs_are_laid_out

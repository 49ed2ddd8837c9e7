use Rattle.ec_asm_based.proofs.Stands.{based_code_stands}
use Rattle.ec_asm_based.proofs.laws.based_code_stands.Goals as goal

pub returns : goal.returns
returns c = based_code_stands

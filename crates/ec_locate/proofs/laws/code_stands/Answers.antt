use Rattle.ec_locate.proofs.CodeStand.{code-stands}
use Rattle.ec_locate.proofs.laws.code_stands.Goals as goal

pub returns : goal.returns
returns c = code-stands

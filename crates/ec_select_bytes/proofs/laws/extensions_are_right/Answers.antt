use Rattle.ec_select_bytes.proofs.Extensions.{extensions_are_right}
use Rattle.ec_select_bytes.proofs.laws.extensions_are_right.Goals as goal

pub returns : goal.returns
returns c = extensions_are_right

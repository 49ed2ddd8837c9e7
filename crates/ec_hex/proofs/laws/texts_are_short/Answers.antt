use Rattle.ec_hex.proofs.Short.{texts_are_short}
use Rattle.ec_hex.proofs.laws.texts_are_short.Goals as goal

pub returns : goal.returns
returns c = texts_are_short

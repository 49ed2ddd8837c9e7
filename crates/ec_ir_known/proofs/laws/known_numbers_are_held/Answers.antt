use Rattle.ec_ir_known.proofs.Held.{known_numbers_are_held}
use Rattle.ec_ir_known.proofs.laws.known_numbers_are_held.Goals as goal

pub returns : goal.returns
returns c = known_numbers_are_held

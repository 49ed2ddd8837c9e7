use Rattle.ec_lower_code.proofs.Made.{made}
use Rattle.ec_lower_code.proofs.laws.lowered_is_made_of_its_program.Goals as goal

pub returns : goal.returns
returns c = made

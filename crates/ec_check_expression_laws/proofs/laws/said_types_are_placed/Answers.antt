use Rattle.ec_check_expression_laws.proofs.SaidTypes.{said_placed}
use Rattle.ec_check_expression_laws.proofs.laws.said_types_are_placed.Goals as goal

pub returns : goal.returns
returns c = said_placed

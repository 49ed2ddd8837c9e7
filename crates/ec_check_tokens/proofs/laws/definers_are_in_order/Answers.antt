use Rattle.ec_check_tokens.proofs.Order.{definers_are_in_order}
use Rattle.ec_check_tokens.proofs.laws.definers_are_in_order.Goals as goal

pub returns : goal.returns
returns c = definers_are_in_order

use Rattle.ec_check_statements.proofs.Needs.{bodies_need_their_tokens}
use Rattle.ec_check_statements.proofs.laws.bodies_need_their_tokens.Goals as goal

pub returns : goal.returns
returns c = bodies_need_their_tokens c.needs_are_bounded.ensures

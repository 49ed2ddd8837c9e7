use Rattle.ec_check_tokens.proofs.FirstTokens.{parts_begin_at_first_tokens}
use Rattle.ec_check_tokens.proofs.laws.parts_begin_at_first_tokens.Goals as goal

pub returns : goal.returns
returns c = parts_begin_at_first_tokens

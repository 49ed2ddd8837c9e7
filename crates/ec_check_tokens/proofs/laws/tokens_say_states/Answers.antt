use Rattle.ec_check_tokens.proofs.Outside.{tokens_say_states}
use Rattle.ec_check_tokens.proofs.laws.tokens_say_states.Goals as goal

pub returns : goal.returns
returns c = tokens_say_states c.there_is_one_reading.ensures

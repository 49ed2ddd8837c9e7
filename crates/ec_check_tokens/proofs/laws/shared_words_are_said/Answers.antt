use Rattle.ec_check_tokens.proofs.Shared.{shared_words_are_said}
use Rattle.ec_check_tokens.proofs.laws.shared_words_are_said.Goals as goal

pub returns : goal.returns
returns c = shared_words_are_said

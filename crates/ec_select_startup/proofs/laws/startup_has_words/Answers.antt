use Rattle.ec_select_startup.proofs.Words.{startup_has_words}
use Rattle.ec_select_startup.proofs.laws.startup_has_words.Goals as goal

pub returns : goal.returns
returns c = startup_has_words

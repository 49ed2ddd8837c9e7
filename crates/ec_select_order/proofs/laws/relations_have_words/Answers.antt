use Rattle.ec_select_order.proofs.Words.{relations_have_words}
use Rattle.ec_select_order.proofs.laws.relations_have_words.Goals as goal

pub returns : goal.returns
returns c = relations_have_words

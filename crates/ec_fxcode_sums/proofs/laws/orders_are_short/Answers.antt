use Rattle.ec_fxcode_sums.proofs.Words.{orders_have}
use Rattle.ec_fxcode_sums.proofs.laws.orders_are_short.Goals as goal

pub returns : goal.returns
returns c = orders_have c.scales_are_short.ensures c.relations_have_words.ensures

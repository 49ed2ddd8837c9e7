use Rattle.ec_fxcode_sums.proofs.Words.{negations_have}
use Rattle.ec_fxcode_sums.proofs.laws.negations_are_short.Goals as goal

pub returns : goal.returns
returns c = negations_have c.scales_are_short.ensures c.complements_are_straight.ensures.words c.clamps_are_words_short.ensures

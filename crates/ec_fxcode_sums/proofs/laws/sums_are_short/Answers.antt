use Rattle.ec_fxcode_sums.proofs.Words.{sums_have}
use Rattle.ec_fxcode_sums.proofs.laws.sums_are_short.Goals as goal

pub returns : goal.returns
returns c = sums_have c.scales_are_short.ensures c.cuts_are_short.ensures c.clamps_are_words_short.ensures

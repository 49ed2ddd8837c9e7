use Rattle.ec_fxcode_conversions.proofs.Words.{conversions_are_short}
use Rattle.ec_fxcode_conversions.proofs.laws.conversions_are_short.Goals as goal

pub returns : goal.returns
returns c = conversions_are_short c.scales_are_short.ensures c.cuts_are_short.ensures c.clamps_are_words_short.ensures

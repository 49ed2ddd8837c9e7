use Rattle.ec_fxcode_conversions.proofs.Words.{wholes_are_short}
use Rattle.ec_fxcode_conversions.proofs.laws.wholes_are_short.Goals as goal

pub returns : goal.returns
returns c = wholes_are_short c.scales_are_short.ensures c.cuts_are_short.ensures c.clamps_are_words_short.ensures

use Rattle.ec_fxcode_scales.proofs.ClampWords.{clamps_are_short}
use Rattle.ec_fxcode_scales.proofs.laws.clamps_are_words_short.Goals as goal

pub returns : goal.returns
returns c = clamps_are_short

use Rattle.ec_fxcode_conversions.proofs.Words.{products_are_short}
use Rattle.ec_fxcode_conversions.proofs.laws.products_are_short.Goals as goal

pub returns : goal.returns
returns c = products_are_short c.scales_are_short.ensures c.cuts_are_short.ensures c.clamps_are_words_short.ensures
    c.products_have_words.ensures

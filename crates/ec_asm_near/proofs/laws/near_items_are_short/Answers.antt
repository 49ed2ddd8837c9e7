use Rattle.ec_asm_near.proofs.Words.{one_word_each, distances_are_own, no_more}
use Rattle.ec_asm_near.proofs.laws.near_items_are_short.Goals as goal

pub returns : goal.returns
returns c = record { one = one_word_each; own = distances_are_own; less = no_more }

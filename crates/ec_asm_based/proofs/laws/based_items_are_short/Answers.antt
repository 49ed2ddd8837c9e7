use Rattle.ec_asm_based.proofs.Words.{no_more}
use Rattle.ec_asm_based.proofs.laws.based_items_are_short.Goals as goal

pub returns : goal.returns
returns c = no_more

use Rattle.ec_asm_near.proofs.Valid.{items_stay_valid, programs_stay_valid}
use Rattle.ec_asm_near.proofs.Words.{labels_stay}
use Rattle.ec_asm_near.proofs.laws.near_items_are_valid.Goals as goal

pub returns : goal.returns
returns c = record { labels = labels_stay; items = items_stay_valid; program = programs_stay_valid }

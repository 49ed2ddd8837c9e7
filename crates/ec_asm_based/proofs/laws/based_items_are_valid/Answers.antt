use Rattle.ec_asm_based.proofs.Valid.{labels_stay, items_stay_valid, programs_stay_valid}
use Rattle.ec_asm_based.proofs.laws.based_items_are_valid.Goals as goal

pub returns : goal.returns
returns c = record { labels = labels_stay; items = items_stay_valid; program = programs_stay_valid }

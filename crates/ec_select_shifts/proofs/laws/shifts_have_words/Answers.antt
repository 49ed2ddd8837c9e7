use Rattle.ec_select_shifts.proofs.Words.{shifts_have_words}
use Rattle.ec_select_shifts.proofs.laws.shifts_have_words.Goals as goal

pub returns : goal.returns
returns c = shifts_have_words

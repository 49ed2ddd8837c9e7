use Rattle.ec_select_shifts.proofs.Counted.{counted_shifts_have_words}
use Rattle.ec_select_shifts.proofs.laws.counted_shifts_have_words.Goals as goal

pub returns : goal.returns
returns c = counted_shifts_have_words

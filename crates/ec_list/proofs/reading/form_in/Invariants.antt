use Rattle.std.proofs.Common.{◌≡◌, drop}
use Rattle.ec_list.specs.Reading.{form_in}
use Rattle.ec_list.proofs.reading.form_in.Given as goal

abbrev pub invariant-loop-word : goal.invariant-loop-word
invariant-loop-word l = form_in l.pattern (drop l.word-index l.words) ≡ form_in l.pattern l.words

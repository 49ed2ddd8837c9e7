use Rattle.std.proofs.Common.{sym, ap, ◌∙◌, arith}
use Rattle.ec_avr.specs.Effects.{has_two_words}
use Rattle.ec_avr.proofs.TwoWords.{two_words_by_first}
use Rattle.ec_avr.proofs.laws.begins_two_words.Goals as goal

pub returns : goal.returns
returns c = λ next small.
    two_words_by_first c.args.first next 0 small (omega arith) ∙ ap has_two_words (sym c.decode.ensures.value)
    ∙ sym c.is_of_two_words.ensures

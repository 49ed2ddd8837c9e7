-- A table of labels, as it is filled while one goes over items.
use Rattle.std.specs.Prelude.{ℕ, nat_eq, Option, Some, None}
use Rattle.indexmap.specs.IndexMap.{get}
use Rattle.ec_asm_near.specs.declared.labels.Labels.{Labels}

-- what a table has of a label: None if it was not noted; else the word, or None if it was noted more than once
abbrev pub noted : Labels → ℕ → Option (Option ℕ)
noted labels l = get nat_eq labels.words l

-- after one more note of the label at a word
abbrev pub noted_again : Option (Option ℕ) → ℕ → Option (Option ℕ)
noted_again None word = Some (Some word)
noted_again (Some before) word = Some None

-- the word of a label that was noted exactly once
abbrev pub noted_word : Option (Option ℕ) → Option ℕ
noted_word None = None
noted_word (Some word) = word

-- the words of the labels that were noted exactly once
abbrev pub words_of : Labels → ℕ → Option ℕ
words_of labels l = noted_word (noted labels l)

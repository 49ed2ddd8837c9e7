-- Where labels stand.
use Rattle.std.specs.Prelude.{ℕ, ◌+◌, ◌==◌, if◌then◌else◌, List, [], ◌∷◌}
use Rattle.ec_asm.specs.Items.{item_words}
use Rattle.ec_asm.specs.declared.items.AsmItem.{AsmItem}
use Rattle.ec_asm.specs.declared.items.AsmItem.TheVariants.{Label}

-- the word where a label stands first, where the items begin at word 0
abbrev pub label_word : List AsmItem → ℕ → ℕ
label_word [] l = 0
label_word (Label k ∷ is) l = if k == l then 0 else label_word is l
label_word (i ∷ is) l = item_words i + label_word is l

-- Jumps, calls and branches to labels that are near, in one word each, and branches to others over RJMP.
use Rattle.std.specs.Prelude.{ℕ, ◌+◌, ◌==◌, Bool, if◌then◌else◌, List, [], ◌∷◌, ◌++◌, Option, Some, None, is_some}
use Rattle.std.specs.Prelude.{option_and_then, ℤ, pos}
use Rattle.ec_isa.specs.Formats.{is_signed}
use Rattle.ec_isa.specs.declared.instructions.Instr.TheVariants.{Nop, Rjmp, Rcall}
use Rattle.ec_asm.specs.declared.items.AsmItem.{AsmItem}
use Rattle.ec_asm.specs.declared.items.AsmItem.TheVariants.{Plain, Label, JumpTo, CallTo, BranchTo}
use Rattle.ec_asm.specs.Items.{distance, branch_if, branch_unless, item_words, code_words}
use Rattle.ec_asm.specs.Valid.{used_label, stands_once}

-- ---- where labels stand

-- the word where a label stands first, where the items begin at word 0
abbrev pub label_word : List AsmItem → ℕ → ℕ
label_word [] l = 0
label_word (Label k ∷ is) l = if k == l then 0 else label_word is l
label_word (i ∷ is) l = item_words i + label_word is l

-- the word of a label, if it stands exactly once
abbrev pub word_of : List AsmItem → ℕ → Option ℕ
word_of items l = if stands_once items l then Some (label_word items l) else None

-- ---- what is near

-- The form in one word goes from so many words back to one less forward, counted from the word after it: RJMP and RCALL
-- from -2,048 to 2,047, BRBS and BRBC from -64 to 63 (AVR Instruction Set Manual)
abbrev pub reach : AsmItem → ℕ
reach (BranchTo set flag l) = 64
reach i = 2048

-- the distance from one word to another, if it is within reach
abbrev pub distance_within : (n pc to : ℕ) → Option ℤ
distance_within n pc to = if is_signed n (distance pc to) then Some (distance pc to) else None

-- the distance from an item at word `pc` to the label that it refers to, if that has a word and is within reach
abbrev pub reached : (words : ℕ → Option ℕ) → (pc : ℕ) → AsmItem → Option ℤ
reached words pc i = option_and_then (distance_within (reach i) pc) (option_and_then words (used_label i))

abbrev pub is_near : (words : ℕ → Option ℕ) → (pc : ℕ) → AsmItem → Bool
is_near words pc i = is_some (reached words pc i)

-- the distance from the second word of a branch at word `pc`, where RJMP can stand, to the label of the branch, if that
-- has a word and is within reach
abbrev pub reached_over : (words : ℕ → Option ℕ) → (pc : ℕ) → AsmItem → Option ℤ
reached_over words pc (BranchTo set flag l) = reached words (pc + 1) (JumpTo l)
reached_over words pc i = None

abbrev pub is_over : (words : ℕ → Option ℕ) → (pc : ℕ) → AsmItem → Bool
is_over words pc i = is_some (reached_over words pc i)

-- ---- the items, shortened

-- what stands for an item at word `pc`, with one word left free where it is near, and two where it is a branch over RJMP
abbrev pub draft_row : (words : ℕ → Option ℕ) → (pc : ℕ) → AsmItem → List AsmItem
draft_row words pc i =
    if is_near words pc i then Plain Nop ∷ [] else if is_over words pc i then Plain Nop ∷ Plain Nop ∷ [] else i ∷ []

-- that of all items from word `pc` on
abbrev pub drafted : (words : ℕ → Option ℕ) → (pc : ℕ) → List AsmItem → List AsmItem
drafted words pc [] = []
drafted words pc (i ∷ is) = draft_row words pc i ++ drafted words (pc + item_words i) is

-- an item in one word, where its distance is given
abbrev pub by_distance : AsmItem → Option ℤ → AsmItem
by_distance (JumpTo l) (Some k) = Plain (Rjmp k)
by_distance (CallTo l) (Some k) = Plain (Rcall k)
by_distance (BranchTo set flag l) (Some k) = Plain (branch_if set flag k)
by_distance i k = i

-- a branch over RJMP, where the distance of RJMP is given
abbrev pub over_jump : AsmItem → Option ℤ → List AsmItem
over_jump (BranchTo set flag l) (Some k) = Plain (branch_unless set flag (pos 1)) ∷ Plain (Rjmp k) ∷ []
over_jump i k = i ∷ []

-- what stands for an item that is at word `pc` where all are long, and at word `at` where those that are near are short:
-- it is short where it is near there, by its distance here
abbrev pub near_row : (long short : ℕ → Option ℕ) → (pc at : ℕ) → AsmItem → List AsmItem
near_row long short pc at i =
    if is_near long pc i then by_distance i (reached short at i) ∷ []
    else if is_over long pc i then over_jump i (reached_over short at i)
    else i ∷ []

abbrev pub near_from : (long short : ℕ → Option ℕ) → (pc at : ℕ) → List AsmItem → List AsmItem
near_from long short pc at [] = []
near_from long short pc at (i ∷ is) =
    let row = near_row long short pc at i in
    row ++ near_from long short (pc + item_words i) (at + code_words row) is

-- Each jump, call and branch that is near where all have their long forms takes one word, and each other branch that is
-- within reach of RJMP there two, by its distance where all these have so many words
abbrev pub near_items : List AsmItem → List AsmItem
near_items items = near_from (word_of items) (word_of (drafted (word_of items) 0 items)) 0 0 items

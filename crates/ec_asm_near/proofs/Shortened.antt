-- Items that have the same labels, and as many or fewer words.
use Rattle.std.proofs.Common.{◌≡◌, ℕ, ◌+◌, ◌≤◌, Bool, true, false, cond, List, [], ◌∷◌, ◌++◌, Option, refl, sym, ap, ◌∙◌, add-zero, arith}
use Rattle.std.specs.Prelude.{◌==◌, if◌then◌else◌}
use Rattle.std.proofs.lemmas.List.Sums.{sum_by-cons, sum_by-append}
use Rattle.ec_isa.specs.declared.instructions.Instr.TheVariants.{Nop}
use Rattle.ec_asm.specs.declared.items.AsmItem.{AsmItem}
use Rattle.ec_asm.specs.declared.items.AsmItem.TheVariants.{Plain, Label, JumpTo, CallTo, BranchTo, LoadPart, LoadObj, StoreObj}
use Rattle.ec_asm.specs.Items.{item_words, code_words}
use Rattle.ec_asm.specs.Valid.{is_label}
use Rattle.ec_asm_near.specs.Near.{label_word, word_of, is_near, is_over, draft_row, drafted, near_from, near_items}
use Rattle.ec_asm_near.proofs.Noted.{count_of, count_cons}

-- ---- one item for another

-- a label for the same label, and no more words
pub record ForItem (i s : AsmItem) : Type 0 where
  pub label : (l : ℕ) → is_label l s ≡ is_label l i
  pub words : item_words s ≤ item_words i

pub same_item : (i : AsmItem) → ForItem i i
same_item i = record { label = λ l. refl; words = omega arith }

abbrev pub ForItems : (is ss : List AsmItem) → Type 0
ForItems [] [] = Unit {0}
ForItems [] (s ∷ ss) = ⊥
ForItems (i ∷ is) [] = ⊥
ForItems (i ∷ is) (s ∷ ss) = ForItem i s × ForItems is ss

-- ---- labels and words

pub words_cons : (i : AsmItem) (is : List AsmItem) → code_words (i ∷ is) ≡ item_words i + code_words is
words_cons i is = sum_by-cons item_words i is

pub label_cons : (i : AsmItem) (is : List AsmItem) (l : ℕ)
    → label_word (i ∷ is) l ≡ (if is_label l i then 0 else item_words i + label_word is l)
label_cons (Label k) is l = at_label (k == l)
  where
    at_label : (b : Bool) → (if b then 0 else label_word is l) ≡ (if b then 0 else 0 + label_word is l)
    at_label true = refl
    at_label false = omega arith
label_cons (Plain i) is l = refl
label_cons (JumpTo k) is l = refl
label_cons (CallTo k) is l = refl
label_cons (BranchTo set flag k) is l = refl
label_cons (LoadPart d o k part) is l = refl
label_cons (LoadObj d o k) is l = refl
label_cons (StoreObj o k r) is l = refl

pub words_append : (is ss : List AsmItem) → code_words (is ++ ss) ≡ code_words is + code_words ss
words_append is ss = sum_by-append item_words is ss

count_append : (l : ℕ) (is ss : List AsmItem) → count_of l (is ++ ss) ≡ count_of l is + count_of l ss
count_append l is ss = sum_by-append (λ x. cond (is_label l x) 1 0) is ss

-- ---- some items for one

-- a label for the same label, and no more words
pub record ForRow (i : AsmItem) (row : List AsmItem) : Type 0 where
  pub count : (l : ℕ) → count_of l row ≡ cond (is_label l i) 1 0
  pub words : code_words row ≤ item_words i
  pub place : (l : ℕ) (ss : List AsmItem)
      → label_word (row ++ ss) l ≡ (if is_label l i then 0 else code_words row + label_word ss l)

one_row : (i s : AsmItem) → ForItem i s → ForRow i (s ∷ [])
one_row i s f =
    let whole : code_words (s ∷ []) ≡ item_words s = omega (arith, words_cons s []) in
    record {
      count = λ l. count_cons l s [] ∙ add-zero (cond (is_label l s) 1 0) ∙ ap (λ b. cond b 1 0) (f.label l);
      words = omega (arith, whole, f.words);
      place = λ l ss.
          label_cons s ss l ∙ ap (λ b. if b then 0 else item_words s + label_word ss l) (f.label l)
          ∙ ap (λ n. if is_label l i then 0 else n + label_word ss l) (sym whole);
    }

same_row : (i : AsmItem) → ForRow i (i ∷ [])
same_row i = one_row i i (same_item i)

-- some items for each
abbrev pub ForRows : (is ss : List AsmItem) → Type 0
ForRows [] ss = ss ≡ []
ForRows (i ∷ is) ss = (row : List AsmItem) × (rest : List AsmItem) × (ss ≡ row ++ rest) × ForRow i row × ForRows is rest

pub rows_of : (is ss : List AsmItem) → ForItems is ss → ForRows is ss
rows_of [] [] h = refl
rows_of [] (s ∷ ss) h = absurd h
rows_of (i ∷ is) [] h = absurd h
rows_of (i ∷ is) (s ∷ ss) h = (s ∷ [], ss, refl, one_row i s h.0, rows_of is ss h.1)

pub same_count : (is ss : List AsmItem) (l : ℕ) → ForRows is ss → count_of l ss ≡ count_of l is
same_count [] ss l h = ap (λ xs. count_of l xs) h
same_count (i ∷ is) ss l h =
    let rest = same_count is h.1 l h.4 in
    ap (λ xs. count_of l xs) h.2 ∙ count_append l h.0 h.1 ∙ ap (λ n. n + count_of l h.1) (h.3.count l)
    ∙ ap (λ n. cond (is_label l i) 1 0 + n) rest ∙ sym (count_cons l i is)

pub no_more_words : (is ss : List AsmItem) → ForRows is ss → code_words ss ≤ code_words is
no_more_words [] ss h = omega (arith, ap code_words h)
no_more_words (i ∷ is) ss h =
    omega (arith, ap code_words h.2, words_append h.0 h.1, words_cons i is, h.3.words, no_more_words is h.1 h.4)

where_less : (b : Bool) (m n m' n' : ℕ) → m ≤ n → m' ≤ n' → (if b then 0 else m + m') ≤ (if b then 0 else n + n')
where_less true m n m' n' h k = omega arith
where_less false m n m' n' h k = omega arith

pub no_later : (is ss : List AsmItem) (l : ℕ) → ForRows is ss → label_word ss l ≤ label_word is l
no_later [] ss l h = omega (arith, ap (λ xs. label_word xs l) h)
no_later (i ∷ is) ss l h =
    let less =
    where_less (is_label l i) (code_words h.0) (item_words i) (label_word h.1 l) (label_word is l) h.3.words (no_later is h.1 l h.4) in
    let q = ap (λ xs. label_word xs l) h.2 ∙ h.3.place l h.1 in
    omega (arith, less, q, label_cons i is l)

-- ---- drafts

free_word : (i : AsmItem) (b : Bool) → ForItem i (Plain Nop) → ForRow i (if b then Plain Nop ∷ [] else i ∷ [])
free_word i true f = one_row i (Plain Nop) f
free_word i false f = same_row i

free_words : (set : Bool) (flag k : ℕ) (b c : Bool)
    → ForRow (BranchTo set flag k)
    (if b then Plain Nop ∷ [] else if c then Plain Nop ∷ Plain Nop ∷ [] else BranchTo set flag k ∷ [])
free_words set flag k true c =
    one_row (BranchTo set flag k) (Plain Nop) (record { label = λ l. refl; words = omega arith })
free_words set flag k false true = record {
  count = λ l. refl;
  words = omega arith;
  place = λ l ss. omega arith;
}
free_words set flag k false false = same_row (BranchTo set flag k)

pub draft_for : (words : ℕ → Option ℕ) (pc : ℕ) (i : AsmItem) → ForRow i (draft_row words pc i)
draft_for words pc (Plain i) = same_row (Plain i)
draft_for words pc (Label k) = same_row (Label k)
draft_for words pc (JumpTo k) =
    free_word (JumpTo k) (is_near words pc (JumpTo k)) (record { label = λ l. refl; words = omega arith })
draft_for words pc (CallTo k) =
    free_word (CallTo k) (is_near words pc (CallTo k)) (record { label = λ l. refl; words = omega arith })
draft_for words pc (BranchTo set flag k) =
    free_words set flag k (is_near words pc (BranchTo set flag k)) (is_over words pc (BranchTo set flag k))
draft_for words pc (LoadPart d o k part) = same_row (LoadPart d o k part)
draft_for words pc (LoadObj d o k) = same_row (LoadObj d o k)
draft_for words pc (StoreObj o k r) = same_row (StoreObj o k r)

pub draft_rows : (words : ℕ → Option ℕ) (pc : ℕ) (is : List AsmItem) → ForRows is (drafted words pc is)
draft_rows words pc [] = refl
draft_rows words pc (i ∷ is) =
    (draft_row words pc i, drafted words (pc + item_words i) is, refl, draft_for words pc i, draft_rows words (pc + item_words i) is)

-- ---- what the three passes give

pub near_is : (items draft : List AsmItem) (long short : ℕ → Option ℕ) → long ≡ word_of items
    → draft ≡ drafted long 0 items → short ≡ word_of draft → near_from long short 0 0 items ≡ near_items items
near_is items draft long short a b c =
    let d = b ∙ ap (λ w. drafted w 0 items) a in
    ap (λ w. near_from w short 0 0 items) a ∙ ap (λ w. near_from (word_of items) w 0 0 items) (c ∙ ap word_of d)

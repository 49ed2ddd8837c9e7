-- Labels as a table has them that is filled while one goes over items.
use Rattle.std.proofs.Common.{◌≡◌, ℕ, zero, suc, ◌+◌, ◌≤◌, length, drop, Bool, true, false, cond, List, [], ◌∷◌, Option, Some, None, refl}
use Rattle.std.proofs.Common.{sym, ap, ◌∙◌, zero-add, add-zero, arith}
use Rattle.std.specs.Prelude.{◌==◌, if◌then◌else◌, count_by}
use Rattle.std.proofs.lemmas.Bool.{ne_eqb}
use Rattle.std.proofs.lemmas.List.{drop_all}
use Rattle.std.proofs.lemmas.List.Sums.{sum_by-cons}
use Rattle.ec_asm.specs.declared.items.AsmItem.{AsmItem}
use Rattle.ec_asm.specs.declared.items.AsmItem.TheVariants.{Label}
use Rattle.ec_asm.specs.Items.{item_words}
use Rattle.ec_asm.specs.Valid.{is_label}
use Rattle.ec_asm_near.specs.Labels.{noted_again, noted_word}
use Rattle.ec_asm_near.specs.Near.{label_word, word_of}

-- what a table has of a label after the items from a word on
abbrev pub noted_after : Option (Option ℕ) → (word : ℕ) → List AsmItem → ℕ → Option (Option ℕ)
noted_after n word [] l = n
noted_after n word (Label k ∷ is) l = noted_after (if k == l then noted_again n word else n) word is l
noted_after n word (i ∷ is) l = noted_after n (word + item_words i) is l

abbrev pub count_of : ℕ → List AsmItem → ℕ
count_of l is = count_by (is_label l) is

pub count_cons : (l : ℕ) (i : AsmItem) (is : List AsmItem) → count_of l (i ∷ is) ≡ cond (is_label l i) 1 0 + count_of l is
count_cons l i is = sum_by-cons (λ x. cond (is_label l x) 1 0) i is

-- ---- a label that was noted twice, once and never

same_noted : (b : Bool) (n : Option (Option ℕ)) (w : ℕ) → n ≡ Some None → (if b then noted_again n w else n) ≡ Some None
same_noted true (Some o) w h = refl
same_noted true None w h = cc
same_noted false n w h = h

twice : (is : List AsmItem) (word l : ℕ) (n : Option (Option ℕ)) → n ≡ Some None → noted_word (noted_after n word is l) ≡ None
twice [] word l n h = ap noted_word h
twice (Label k ∷ is) word l n h =
    twice is word l (if k == l then noted_again n word else n) (same_noted (k == l) n word h)
twice (i ∷ is) word l n h = twice is (word + item_words i) l n h

-- so many more notes leave the word
abbrev once_left : (count w : ℕ) → Option ℕ
once_left count w = if count == 0 then Some w else None

abbrev first_left : (count w : ℕ) → Option ℕ
first_left count w = if count == 1 then Some w else None

more_left : (c n w : ℕ) → c ≡ 1 + n → once_left c w ≡ None
more_left c n w h = rw (ne_eqb c 0 (λ e. omega arith)) refl

one_more : (b : Bool) (c n w word : ℕ) (f : Option (Option ℕ) → Option ℕ) → c ≡ cond b 1 0 + n → f (Some None) ≡ None
    → f (Some (Some w)) ≡ once_left n w → f (if b then Some None else Some (Some w)) ≡ once_left c w
one_more true c n w word f h two rest = two ∙ sym (more_left c n w h)
one_more false c n w word f h two rest = rest ∙ ap (λ m. once_left m w) (sym (h ∙ zero-add n))

once : (is : List AsmItem) (word l w : ℕ)
    → noted_word (noted_after (Some (Some w)) word is l) ≡ once_left (count_of l is) w
once [] word l w = refl
once (Label k ∷ is) word l w =
    one_more (k == l) (count_of l (Label k ∷ is)) (count_of l is) w word (λ n. noted_word (noted_after n word is l))
    (count_cons l (Label k) is) (twice is word l (Some None) refl) (once is word l w)
once (i ∷ is) word l w =
    once is (word + item_words i) l w ∙ ap (λ m. once_left m w) (sym (count_cons l i is ∙ zero-add (count_of l is)))

-- the word where the label stands first, from a word on
first_more : (b : Bool) (c n w word : ℕ) (f : Option (Option ℕ) → Option ℕ) → c ≡ cond b 1 0 + n
    → f (Some (Some word)) ≡ once_left n word → f None ≡ first_left n (word + w)
    → f (if b then Some (Some word) else None) ≡ first_left c (word + (if b then 0 else w))
first_more true c n w word f h one rest = one ∙ first_counted c n word h ∙ ap (λ m. first_left c m) (sym (add-zero word))
  where
    first_counted : (c n word : ℕ) → c ≡ 1 + n → once_left n word ≡ first_left c word
    first_counted c zero word h = ap (λ m. first_left m word) (sym h)
    first_counted c (suc m) word h = rw (ne_eqb (suc m) 0 (λ e. omega arith), ne_eqb c 1 (λ e. omega arith)) refl
first_more false c n w word f h one rest = rest ∙ ap (λ m. first_left m (word + w)) (sym (h ∙ zero-add n))

other_more : (c n w word more : ℕ) → c ≡ 0 + n → first_left n (word + more + w) ≡ first_left c (word + (more + w))
other_more c n w word more h =
    let q : word + more + w ≡ word + (more + w) = omega arith in
    ap (λ m. first_left m (word + more + w)) (sym (h ∙ zero-add n)) ∙ ap (λ m. first_left c m) q

first : (is : List AsmItem) (word l : ℕ)
    → noted_word (noted_after None word is l) ≡ first_left (count_of l is) (word + label_word is l)
first [] word l = refl
first (Label k ∷ is) word l =
    first_more (k == l) (count_of l (Label k ∷ is)) (count_of l is) (label_word is l) word
    (λ n. noted_word (noted_after n word is l)) (count_cons l (Label k) is) (once is word l word) (first is word l)
first (i ∷ is) word l =
    first is (word + item_words i) l
    ∙ other_more (count_of l (i ∷ is)) (count_of l is) (label_word is l) word (item_words i) (count_cons l i is)

-- what is noted of all items is where labels stand
pub noted_is : (items : List AsmItem) (l : ℕ) → noted_word (noted_after None 0 items l) ≡ word_of items l
noted_is items l = first items 0 l ∙ ap (λ m. first_left (count_of l items) m) (zero-add (label_word items l))

-- so where no item is left, the table has the words of labels
pub all_noted : (items : List AsmItem) (n : ℕ → Option (Option ℕ)) (word i : ℕ) → length items ≤ i
    → ((l : ℕ) → noted_after (n l) word (drop i items) l ≡ noted_after None 0 items l)
    → (λ l. noted_word (n l)) ≡ word_of items
all_noted items n word i past h = λ j l. at_label l j
  where
    at_label : (l : ℕ) → noted_word (n l) ≡ word_of items l
    at_label l =
        ap (λ xs. noted_word (noted_after (n l) word xs l)) (sym (drop_all i items past)) ∙ ap noted_word (h l) ∙ noted_is items l

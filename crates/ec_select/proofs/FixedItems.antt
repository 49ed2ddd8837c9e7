-- The items and the words of operations with a fixed-point type.
use Rattle.std.proofs.Common.{◌≡◌, ℕ, ◌+◌, ◌-◌, ◌*◌, ◌≤◌, ◌==◌, Bool, true, false, List, [], ◌∷◌, ◌++◌}
use Rattle.std.proofs.Common.{refl, sym, ◌∙◌, arith}
use Rattle.std.specs.Prelude.{cond, count_by, if◌then◌else◌}
use Rattle.std.specs.List.{list_all}
use Rattle.std.proofs.lemmas.Bool.{false≢true}
use Rattle.std.proofs.lemmas.Bool.Decides.{nat_tests}
use Rattle.std.proofs.lemmas.List.Sums.{sum_by-append}
use Rattle.ec_asm.specs.declared.items.AsmItem.{AsmItem}
use Rattle.ec_asm.specs.declared.items.AsmItem.TheVariants.{Plain, Label, JumpTo, CallTo, BranchTo, LoadPart, LoadObj}
use Rattle.ec_asm.specs.declared.items.AsmItem.TheVariants.{StoreObj}
use Rattle.ec_asm.specs.declared.pieces.Location.{Location}
use Rattle.ec_asm.specs.declared.pieces.Location.TheVariants.{InRegisters, InMemory}
use Rattle.ec_asm.specs.Items.{code_words}
use Rattle.ec_asm.specs.Pieces.{copy_code}
use Rattle.ec_asm.specs.Valid.{Sizes, is_offset, is_valid_item, used_label, is_label, is_placed}
use Rattle.ec_fxcode.specs.ClampLaws.{HasPlaces}
use Rattle.ec_select_fixed.specs.FixedLaws.{HasPlainItems, FixedBinariesArePlain, FixedUnariesArePlain}
use Rattle.ec_select_fixed.specs.FixedLaws.{FixedConversionsArePlain}
use Rattle.ec_select_operations.specs.Code.{answer_location, answer_code, by_kind}
use Rattle.ec_select.proofs.Fitting.{fits, Fit, joined, and_first, and_second, BytesFit}
use Rattle.ec_select.proofs.Pieces.{copy_fits}
use Rattle.ec_select.proofs.Words.{joined_words, copy_words_most}

-- what their items are, by the crate below
pub record FixedItemLaws : Type 0 where
  pub binaries : FixedBinariesArePlain
  pub unaries : FixedUnariesArePlain
  pub conversions : FixedConversionsArePlain

-- ---- items

no_place : (here : Bool) (n : ℕ) → cond here 1 0 + n ≡ 0 → (here ≡ false) × (n ≡ 0)
no_place true n h = let q : 1 + n ≡ 0 = h in absurd (omega arith)
no_place false n h = let q : 0 + n ≡ 0 = h in (refl, omega (arith, q))

-- an item whose fields are in range, which refers to no label and is the place of none
one_fits : (sizes : Sizes) (i : AsmItem) → is_valid_item sizes i ≡ true → is_placed [] (used_label i) ≡ true
    → ((l : ℕ) → is_label l i ≡ false) → fits sizes i ≡ true
one_fits sizes (Plain i) h u p = h
one_fits sizes (Label l) h u p =
    let q : (l == l) ≡ true = grind (arith, nat_tests) in let r : (l == l) ≡ false = p l in absurd (false≢true (cc))
one_fits sizes (JumpTo l) h u p = absurd (false≢true u)
one_fits sizes (CallTo l) h u p = absurd (false≢true u)
one_fits sizes (BranchTo set flag l) h u p = absurd (false≢true u)
one_fits sizes (LoadPart d o k part) h u p = h
one_fits sizes (LoadObj d o k) h u p = h
one_fits sizes (StoreObj o k r) h u p = h

count_first : (l : ℕ) (i : AsmItem) (is : List AsmItem)
    → count_by (is_label l) (i ∷ is) ≡ cond (is_label l i) 1 0 + count_by (is_label l) is
count_first l i is =
    let r = sum_by-append (λ (x : AsmItem). cond (is_label l x) 1 0) (i ∷ []) is in omega (arith, r)

pub all_fit : (sizes : Sizes) (code : List AsmItem) → list_all (is_valid_item sizes) code ≡ true
    → list_all (λ i. is_placed [] (used_label i)) code ≡ true → ((l : ℕ) → count_by (is_label l) code ≡ 0)
    → Fit sizes code
all_fit sizes [] h u p = refl
all_fit sizes (i ∷ is) h u p =
    let none = λ (l : ℕ). no_place (is_label l i) (count_by (is_label l) is) (sym (count_first l i is) ∙ p l) in
    let a = one_fits sizes i (and_first (is_valid_item sizes i) (list_all (is_valid_item sizes) is) h)
    (and_first (is_placed [] (used_label i)) (list_all (λ j. is_placed [] (used_label j)) is) u) (λ l. (none l).0) in
    let b = all_fit sizes is (and_second (is_valid_item sizes i) (list_all (is_valid_item sizes) is) h)
    (and_second (is_placed [] (used_label i)) (list_all (λ j. is_placed [] (used_label j)) is) u) (λ l. (none l).1) in
    rw (a, b) refl

pub plain_fits : (sizes : Sizes) (code : List AsmItem) → HasPlainItems sizes code → Fit sizes code
plain_fits sizes code h = all_fit sizes code h.valid (h.uses []) h.places

pub has_places : (sizes : Sizes) (p : Location) (n : ℕ) → 1 ≤ n → BytesFit sizes p n → HasPlaces sizes p n
has_places sizes (InRegisters r) n some f = let last = f (n - 1) (omega arith) in omega arith
has_places sizes (InMemory o k) n some f = f

-- the result is copied from the work bytes to its place
pub answer_fits : (sizes : Sizes) → ((k : ℕ) → k ≤ 64 → is_offset sizes 1280 k ≡ true) → (code : List AsmItem)
    (to : Location) (n : ℕ) → n ≤ 8 → Fit sizes code → BytesFit sizes to n → Fit sizes (answer_code code to n)
answer_fits sizes work code to n few h z = by_count (n == 0) where
  by_count : (none : Bool) → Fit sizes (if none then [] else code ++ copy_code answer_location to n)
  by_count true = refl
  by_count false =
      joined (fits sizes) code (copy_code answer_location to n) h
      (copy_fits sizes answer_location to n (λ i l. work (40 + i) (omega arith)) z)

pub own_fits : (sizes : Sizes) (k : Bool) (a b : List AsmItem) → k ≡ true → Fit sizes a → Fit sizes (by_kind k a b)
own_fits sizes k a b e h = rw e h

pub others_fit : (sizes : Sizes) (k : Bool) (a b : List AsmItem) → k ≡ false → Fit sizes b → Fit sizes (by_kind k a b)
others_fit sizes k a b e h = rw e h

-- ---- words

pub answer_words : (code : List AsmItem) (to : Location) (n w most : ℕ) → n ≤ w → code_words code + 4 * w ≤ most
    → code_words (answer_code code to n) ≤ most
answer_words code to n w most l h = by_count (n == 0) where
  by_count : (none : Bool) → code_words (if none then [] else code ++ copy_code answer_location to n) ≤ most
  by_count true = omega arith
  by_count false =
      let x = copy_words_most answer_location to n in
      omega (arith, joined_words code (copy_code answer_location to n), x, h)

pub own_words : (k : Bool) (a b : List AsmItem) (most : ℕ) → k ≡ true → code_words a ≤ most
    → code_words (by_kind k a b) ≤ most
own_words k a b most e h = rw e h

pub others_words : (k : Bool) (a b : List AsmItem) (most : ℕ) → k ≡ false → code_words b ≤ most
    → code_words (by_kind k a b) ≤ most
others_words k a b most e h = rw e h

-- By the base there are no more words than before.
use Rattle.std.proofs.Common.{◌≡◌, ℕ, ◌+◌, ◌/◌, ◌%◌, ◌<◌, ◌≤◌, Bool, true, false, ◌&&◌, cond, List, [], ◌∷◌, map, Option, Some, None, refl, sym, ap, ◌∙◌, arith}
use Rattle.std.specs.Prelude.{is_some, nat_lt, if◌then◌else◌}
use Rattle.std.specs.List.{list_all}
use Rattle.std.proofs.lemmas.Bool.{and_parts, ltb-true}
use Rattle.std.proofs.lemmas.List.Sums.{sum_by-cons}
use Rattle.ec_isa.specs.declared.instructions.Instr.TheVariants.{Ldi}
use Rattle.ec_asm.specs.declared.items.AsmItem.{AsmItem}
use Rattle.ec_asm.specs.declared.items.AsmItem.TheVariants.{Plain, Label, JumpTo, CallTo, BranchTo, LoadPart, LoadObj, StoreObj}
use Rattle.ec_asm.specs.Items.{code_words, item_words}
use Rattle.ec_asm.proofs.ItemWords.{words_cons}
use Rattle.ec_asm_based.specs.Based.{distance_of, is_reached, load_by, store_by, based_item, with_base, uses, chosen_base, is_based}
use Rattle.ec_asm_based.specs.Based.{based_items, item_leaves_base}
use Rattle.ec_asm_based.specs.Laws.{NoMoreWords}
use Rattle.ec_asm_based.specs.declared.reach.Reach.{Reach}

load_saves : (d o k : ℕ) (q : Option ℕ) → item_words (load_by d o k q) + cond (is_some q) 1 0 ≡ 2
load_saves d o k None = refl
load_saves d o k (Some q) = refl

store_saves : (o k r : ℕ) (q : Option ℕ) → item_words (store_by o k r q) + cond (is_some q) 1 0 ≡ 2
store_saves o k r None = refl
store_saves o k r (Some q) = refl

-- an item that is near takes a word less
item_saves : (reaches : List Reach) (base : ℕ) (i : AsmItem)
    → item_words (based_item reaches base i) + cond (is_reached reaches base i) 1 0 ≡ item_words i
item_saves reaches base (Plain i) = omega arith
item_saves reaches base (Label l) = omega arith
item_saves reaches base (JumpTo l) = omega arith
item_saves reaches base (CallTo l) = omega arith
item_saves reaches base (BranchTo set flag l) = omega arith
item_saves reaches base (LoadPart d o k part) = omega arith
item_saves reaches base (LoadObj d o k) = load_saves d o k (distance_of reaches base o k)
item_saves reaches base (StoreObj o k r) = store_saves o k r (distance_of reaches base o k)

all_save : (reaches : List Reach) (base : ℕ) (is : List AsmItem)
    → code_words (map (based_item reaches base) is) + uses reaches is base ≡ code_words is
all_save reaches base [] = refl
all_save reaches base (i ∷ is) =
    let one = item_saves reaches base i in
    let more = all_save reaches base is in
    let a = words_cons (based_item reaches base i) (map (based_item reaches base) is) in
    let b = words_cons i is in
    let c : uses reaches (i ∷ is) base ≡ cond (is_reached reaches base i) 1 0 + uses reaches is base =
    sum_by-cons (λ x. cond (is_reached reaches base x) 1 0) i is in
    omega (arith, one, more, a, b, c)

-- the two instructions that set Y
low_code : ℕ → AsmItem
low_code base = Plain (Ldi 28 (base % 256))

high_code : ℕ → AsmItem
high_code base = Plain (Ldi 29 (base / 256))

pub no_more : NoMoreWords
unfolding low_code high_code
no_more reaches items = by_test (is_based reaches items) refl where
  by_test : (b : Bool) → is_based reaches items ≡ b
      → code_words (if b then with_base reaches (chosen_base reaches items) items else items) ≤ code_words items
  by_test false q = omega arith
  by_test true q =
      let base = chosen_base reaches items in
      let p = and_parts (nat_lt base 65536 && nat_lt 2 (uses reaches items base)) (list_all item_leaves_base items) q in
      let r = and_parts (nat_lt base 65536) (nat_lt 2 (uses reaches items base)) p.0 in
      let some = ltb-true 2 (uses reaches items base) r.1 in
      let save = all_save reaches base items in
      let code = map (based_item reaches base) items in
      let a = words_cons (low_code base) (high_code base ∷ code) in
      let b = words_cons (high_code base) code in
      omega (arith, some, save, a, b)

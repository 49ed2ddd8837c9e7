-- What can be placed can be placed by the base.
use Rattle.std.proofs.Common.{◌≡◌, ℕ, ◌+◌, ◌/◌, ◌%◌, ◌<◌, Bool, true, false, ◌&&◌, cond, List, [], ◌∷◌, map, Option, Some, None, refl, sym, ap, ◌∙◌}
use Rattle.std.proofs.Common.{subst, arith}
use Rattle.std.specs.Prelude.{◌==◌, IsTrue, count_by, nat_lt, if◌then◌else◌}
use Rattle.std.specs.List.{list_all}
use Rattle.std.proofs.lemmas.Bool.{and_parts, and_from, lt-ltb, ltb-true}
use Rattle.std.proofs.lemmas.List.Sums.{sum_by-cons}
use Rattle.ec_isa.specs.declared.instructions.Instr.TheVariants.{Ldi}
use Rattle.ec_isa.specs.Formats.{is_register}
use Rattle.ec_asm.specs.declared.items.AsmItem.{AsmItem}
use Rattle.ec_asm.specs.declared.items.AsmItem.TheVariants.{Plain, Label, JumpTo, CallTo, BranchTo, LoadPart, LoadObj, StoreObj}
use Rattle.ec_asm.specs.declared.items.AsmProgram.{AsmProgram}
use Rattle.ec_asm.specs.Valid.{Sizes, sizes_of, is_offset, is_valid_item, used_label, is_label, stands_once, is_placed}
use Rattle.ec_asm_based.specs.Based.{distance_of, load_by, store_by, based_item, with_base, uses, chosen_base, is_based}
use Rattle.ec_asm_based.specs.Based.{based_items, item_leaves_base}
use Rattle.ec_asm_based.specs.Laws.{LabelsStay, ItemsStayValid, ProgramsStayValid}
use Rattle.ec_asm_based.specs.declared.reach.Reach.{Reach}
use Rattle.ec_asm_based.proofs.Stands.{distance_found}

-- ---- labels

load_label : (l d o k : ℕ) (q : Option ℕ) → is_label l (load_by d o k q) ≡ false
load_label l d o k None = refl
load_label l d o k (Some q) = refl

store_label : (l o k r : ℕ) (q : Option ℕ) → is_label l (store_by o k r q) ≡ false
store_label l o k r None = refl
store_label l o k r (Some q) = refl

item_label : (reaches : List Reach) (base l : ℕ) (i : AsmItem) → is_label l (based_item reaches base i) ≡ is_label l i
item_label reaches base l (LoadObj d o k) = load_label l d o k (distance_of reaches base o k)
item_label reaches base l (StoreObj o k r) = store_label l o k r (distance_of reaches base o k)
item_label reaches base l _ = refl

abbrev count_of : ℕ → List AsmItem → ℕ
count_of l is = count_by (is_label l) is

count_cons : (l : ℕ) (i : AsmItem) (is : List AsmItem) → count_of l (i ∷ is) ≡ cond (is_label l i) 1 0 + count_of l is
count_cons l i is = sum_by-cons (λ x. cond (is_label l x) 1 0) i is

mapped_labels : (reaches : List Reach) (base l : ℕ) (is : List AsmItem) → count_of l (map (based_item reaches base) is) ≡ count_of l is
mapped_labels reaches base l [] = refl
mapped_labels reaches base l (i ∷ is) =
    let n = based_item reaches base i in
    count_cons l n (map (based_item reaches base) is)
    ∙ ap (λ b. cond b 1 0 + count_of l (map (based_item reaches base) is)) (item_label reaches base l i)
    ∙ ap (λ k. cond (is_label l i) 1 0 + k) (mapped_labels reaches base l is)
    ∙ sym (count_cons l i is)

pub labels_stay : LabelsStay
labels_stay reaches items l = by_test (is_based reaches items) where
  by_test : (b : Bool) → count_of l (if b then with_base reaches (chosen_base reaches items) items else items) ≡ count_of l items
  by_test false = refl
  by_test true =
      let code = map (based_item reaches (chosen_base reaches items)) items in
      let low = Plain (Ldi 28 (chosen_base reaches items % 256)) in
      let high = Plain (Ldi 29 (chosen_base reaches items / 256)) in
      let a = count_cons l low (high ∷ code) in
      let b = count_cons l high code in
      let c = mapped_labels reaches (chosen_base reaches items) l items in
      omega (arith, a, b, c)

-- ---- fields

load_valid : (sizes : Sizes) (reaches : List Reach) (base d o k : ℕ) (q : Option ℕ) → distance_of reaches base o k ≡ q
    → (nat_lt d 32 && is_offset sizes o k) ≡ true → is_valid_item sizes (load_by d o k q) ≡ true
load_valid sizes reaches base d o k None f h = h
load_valid sizes reaches base d o k (Some q) f h =
    let p = and_parts (nat_lt d 32) (is_offset sizes o k) h in
    let n = distance_found reaches base o k q f in
    let near = n.near in
    let is = n.is in
    and_from (is_register d) (nat_lt q 64) p.0 (lt-ltb q 64 (omega arith))

store_valid : (sizes : Sizes) (reaches : List Reach) (base o k r : ℕ) (q : Option ℕ) → distance_of reaches base o k ≡ q
    → (nat_lt r 32 && is_offset sizes o k) ≡ true → is_valid_item sizes (store_by o k r q) ≡ true
store_valid sizes reaches base o k r None f h = h
store_valid sizes reaches base o k r (Some q) f h =
    let p = and_parts (nat_lt r 32) (is_offset sizes o k) h in
    let n = distance_found reaches base o k q f in
    let near = n.near in
    let is = n.is in
    and_from (is_register r) (nat_lt q 64) p.0 (lt-ltb q 64 (omega arith))

item_valid : (sizes : Sizes) (reaches : List Reach) (base : ℕ) (i : AsmItem) → is_valid_item sizes i ≡ true
    → is_valid_item sizes (based_item reaches base i) ≡ true
item_valid sizes reaches base (LoadObj d o k) h = load_valid sizes reaches base d o k (distance_of reaches base o k) refl h
item_valid sizes reaches base (StoreObj o k r) h = store_valid sizes reaches base o k r (distance_of reaches base o k) refl h
item_valid sizes reaches base (Plain i) h = h
item_valid sizes reaches base (Label l) h = refl
item_valid sizes reaches base (JumpTo l) h = refl
item_valid sizes reaches base (CallTo l) h = refl
item_valid sizes reaches base (BranchTo set flag l) h = h
item_valid sizes reaches base (LoadPart d o k part) h = h

-- what each item passes by the base, all pass
mapped_pass : (p q : AsmItem → Bool) (reaches : List Reach) (base : ℕ)
    → ((i : AsmItem) → p i ≡ true → q (based_item reaches base i) ≡ true) → (is : List AsmItem) → list_all p is ≡ true
    → list_all q (map (based_item reaches base) is) ≡ true
mapped_pass p q reaches base one [] h = refl
mapped_pass p q reaches base one (i ∷ is) h =
    let r = and_parts (p i) (list_all p is) h in
    and_from (q (based_item reaches base i)) (list_all q (map (based_item reaches base) is)) (one i r.0)
    (mapped_pass p q reaches base one is r.1)

module _ (reaches : List Reach) (items : List AsmItem) where
  abbrev chosen : ℕ
  chosen = chosen_base reaches items

  -- what the instructions that set Y pass where the base is an address, and each item by it
  all_pass : (p q : AsmItem → Bool) → ((i : AsmItem) → p i ≡ true → q (based_item reaches chosen i) ≡ true)
      → ((i : AsmItem) → p i ≡ true → q i ≡ true)
      → (chosen < 65536 → q (Plain (Ldi 28 (chosen % 256))) ≡ true) → (chosen < 65536 → q (Plain (Ldi 29 (chosen / 256))) ≡ true)
      → list_all p items ≡ true → list_all q (based_items reaches items) ≡ true
  all_pass p q one same low high h = by_test (is_based reaches items) refl where
    all_same : (is : List AsmItem) → list_all p is ≡ true → list_all q is ≡ true
    all_same [] g = refl
    all_same (i ∷ is) g =
        let r = and_parts (p i) (list_all p is) g in and_from (q i) (list_all q is) (same i r.0) (all_same is r.1)

    by_test : (b : Bool) → is_based reaches items ≡ b → list_all q (if b then with_base reaches chosen items else items) ≡ true
    by_test false t = all_same items h
    by_test true t =
        let a = and_parts (nat_lt chosen 65536 && nat_lt 2 (uses reaches items chosen)) (list_all item_leaves_base items) t in
        let l = ltb-true chosen 65536 (and_parts (nat_lt chosen 65536) (nat_lt 2 (uses reaches items chosen)) a.0).0 in
        let code = map (based_item reaches chosen) items in
        and_from (q (Plain (Ldi 28 (chosen % 256)))) (q (Plain (Ldi 29 (chosen / 256))) && list_all q code) (low l)
        (and_from (q (Plain (Ldi 29 (chosen / 256)))) (list_all q code) (high l) (mapped_pass p q reaches chosen one items h))

  pub items_valid : (sizes : Sizes) → list_all (is_valid_item sizes) items ≡ true
      → list_all (is_valid_item sizes) (based_items reaches items) ≡ true
  items_valid sizes h =
      all_pass (is_valid_item sizes) (is_valid_item sizes) (item_valid sizes reaches chosen) (λ i g. g)
      (λ l. rw (lt-ltb (chosen % 256) 256 (omega arith)) refl) (λ l. rw (lt-ltb (chosen / 256) 256 (omega (arith, l))) refl) h

pub items_stay_valid : ItemsStayValid
items_stay_valid sizes reaches items h = items_valid reaches items sizes h

-- ---- labels that are used stay where they stand once

load_used : (d o k : ℕ) (q : Option ℕ) → used_label (load_by d o k q) ≡ None
load_used d o k None = refl
load_used d o k (Some q) = refl

store_used : (o k r : ℕ) (q : Option ℕ) → used_label (store_by o k r q) ≡ None
store_used o k r None = refl
store_used o k r (Some q) = refl

used_same : (reaches : List Reach) (base : ℕ) (i : AsmItem) → used_label (based_item reaches base i) ≡ used_label i
used_same reaches base (LoadObj d o k) = load_used d o k (distance_of reaches base o k)
used_same reaches base (StoreObj o k r) = store_used o k r (distance_of reaches base o k)
used_same reaches base _ = refl

abbrev placed_in : List AsmItem → AsmItem → Bool
placed_in all i = is_placed all (used_label i)

placed_same : (all other : List AsmItem) (o : Option ℕ) → ((l : ℕ) → stands_once other l ≡ stands_once all l) → is_placed all o ≡ true
    → is_placed other o ≡ true
placed_same all other None same h = refl
placed_same all other (Some l) same h = same l ∙ h

once_same : (reaches : List Reach) (items : List AsmItem) (l : ℕ) → stands_once (based_items reaches items) l ≡ stands_once items l
once_same reaches items l = ap (λ n. n == 1) (labels_stay reaches items l)

all_placed : (reaches : List Reach) (items : List AsmItem) → list_all (placed_in items) items ≡ true
    → list_all (placed_in (based_items reaches items)) (based_items reaches items) ≡ true
all_placed reaches items h =
    let other = based_items reaches items in
    let same = once_same reaches items in
    all_pass reaches items (placed_in items) (placed_in other)
    (λ i g. ap (is_placed other) (used_same reaches (chosen_base reaches items) i) ∙ placed_same items other (used_label i) same g)
    (λ i g. placed_same items other (used_label i) same g) (λ l. refl) (λ l. refl) h

pub programs_stay_valid : ProgramsStayValid
programs_stay_valid objects work reaches asm based items frames entry h =
    let all = asm.items.items in
    let sizes = sizes_of objects asm.frames.items work in
    let valid = items_valid reaches all sizes h.items in
    let placed = all_placed reaches all h.labels in
    record {
      items =
          subst (λ fs. IsTrue (list_all (is_valid_item (sizes_of objects fs work)) based.items.items)) (sym frames)
          (subst (λ xs. IsTrue (list_all (is_valid_item sizes) xs)) (sym items) valid);
      labels = subst (λ xs. IsTrue (list_all (placed_in xs) xs)) (sym items) placed;
      entry =
          subst (λ xs. IsTrue (stands_once xs based.entry)) (sym items)
          (subst (λ l. IsTrue (stands_once (based_items reaches all) l)) (sym entry) (once_same reaches all asm.entry ∙ h.entry));
      functions = let f = h.functions in rw frames f;
    }

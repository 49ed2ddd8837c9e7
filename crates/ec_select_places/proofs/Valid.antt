-- The items of the code are valid, and have no labels.
use Rattle.std.proofs.Common.{◌≡◌, ℕ, zero, suc, ◌+◌, ◌/◌, ◌%◌, ◌<◌, ◌≤◌, ◌==◌, Bool, true, false, List, [], ◌∷◌, ◌++◌}
use Rattle.std.proofs.Common.{refl, ◌∙◌, arith, ⊎_elim}
use Rattle.std.specs.Prelude.{count_by, cond, if◌then◌else◌}
use Rattle.std.specs.List.{list_all}
use Rattle.std.proofs.lemmas.Bool.{lt-ltb, eqb-true, eqb-false}
use Rattle.std.proofs.lemmas.List.Folds.{sum_by-zero}
use Rattle.ec_isa.specs.declared.instructions.Instr.TheVariants.{Movw}
use Rattle.ec_asm.specs.declared.items.AsmItem.{AsmItem}
use Rattle.ec_asm.specs.declared.items.AsmItem.TheVariants.{Plain}
use Rattle.ec_asm.specs.declared.pieces.Location.{Location}
use Rattle.ec_asm.specs.declared.pieces.Location.TheVariants.{InRegisters, InMemory}
use Rattle.ec_asm.specs.declared.pieces.Operator.TheVariants.{Difference}
use Rattle.ec_asm.specs.Pieces.{copy_code, operate_code, compare_byte, compare_code}
use Rattle.ec_asm.specs.Valid.{Sizes, is_valid_item, used_label, is_label, is_placed}
use Rattle.ec_select_bytes.specs.Values.{extend_code}
use Rattle.ec_select_order.specs.declared.relations.Relation.{Relation}
use Rattle.ec_select_order.specs.declared.relations.Relation.TheVariants.{Less, NotLess, Equal, NotEqual}
use Rattle.ec_select_order.specs.Relations.{truth_code, relation_code}
use Rattle.ec_select_pointers.specs.Accesses.{point_code}
use Rattle.ec_select_pointers.proofs.Valid.{both, all_pass, is_plain, no_use, no_place, passing}
use Rattle.ec_select_places.specs.Steps.{z_pair, is_in_z, to_z_code, index_code, product_code, scale_code, scale_index_code}
use Rattle.ec_select_places.specs.Steps.{advance_code}
use Rattle.ec_select_places.specs.Steps.{order_code, compared_bytes}
use Rattle.ec_select_places.specs.Conversions.{embed_code, narrow_code}
use Rattle.ec_select_places.proofs.Multiples.{of_each}
use Rattle.ec_select_places.specs.Form.{HasPlaces, HasPlacesOrZ, HasNoLabel, StepsAreValid, OrdersAreValid, ConversionsAreValid}
use Rattle.ec_select_places.specs.Distances.{halve_z, halvings_code, distance_code}
use Rattle.ec_select_places.specs.Form.{PlacesHaveNoLabel, DistancesAreValid, DistancesHaveNoLabel}

-- ---- lists of items

by_test : (t : AsmItem → Bool) (b : Bool) (a c : List AsmItem) → list_all t a ≡ true → list_all t c ≡ true
    → list_all t (if b then a else c) ≡ true
by_test t true a c h k = h
by_test t false a c h k = k

-- ---- a test that each piece of the code passes

module _ (t : AsmItem → Bool) where
  scale_index_passes : (p : Location) (signed : Bool) (n size : ℕ) → list_all t (index_code p signed n) ≡ true
      → list_all t (scale_code size) ≡ true → list_all t (scale_index_code p signed n size) ≡ true
  scale_index_passes p signed n size h k = both t (index_code p signed n) (scale_code size) h k

  pub order_passes : (r : Relation) (left right : Location) (n : ℕ)
      → ((i : ℕ) → i < n → list_all t (compare_byte right left i) ≡ true) → list_all t (truth_code r false) ≡ true
      → list_all t (relation_code r false left right n) ≡ true
  order_passes r left right n h k =
      both t (compare_code right left n) (truth_code r false) (all_pass t (compare_byte right left) n h) k

  distance_passes : (p c q : Location) (twos inverse : ℕ) → list_all t (copy_code p z_pair 2) ≡ true
      → list_all t (operate_code Difference c z_pair 2) ≡ true → list_all t halve_z ≡ true
      → list_all t (scale_code inverse) ≡ true → list_all t (copy_code z_pair q 2) ≡ true
      → list_all t (distance_code p c q twos inverse) ≡ true
  distance_passes p c q twos inverse a b h k d =
      both t (copy_code p z_pair 2) _ a (both t (operate_code Difference c z_pair 2) _ b
      (both t (halvings_code twos) _ (all_pass t (λ i. halve_z) twos (λ i l. h))
      (both t (scale_code inverse) (copy_code z_pair q 2) k d)))

-- ---- fields

at_most_two : (r : Relation) (n : ℕ) → 2 ≤ n → compared_bytes r n ≤ n
at_most_two Less n l = l
at_most_two NotLess n l = l
at_most_two Equal n l = omega arith
at_most_two NotEqual n l = omega arith

module _ (sizes : Sizes) where
  abbrev valid : AsmItem → Bool
  valid = is_valid_item sizes

  one_valid : (p : Location) (n : ℕ) → 1 ≤ n → HasPlaces sizes p n → list_all valid (copy_code p z_pair 1) ≡ true
  one_valid (InRegisters r) n l h = rw (lt-ltb (r + 0) 32 (omega arith)) refl
  one_valid (InMemory o k) n l h = rw (h 0 (omega arith)) refl

  to_z_valid : (p : Location) (n : ℕ) → 2 ≤ n → HasPlaces sizes p n → list_all valid (copy_code p z_pair 2) ≡ true
  to_z_valid (InRegisters r) n l h = rw (lt-ltb (r + 0) 32 (omega arith), lt-ltb (r + 1) 32 (omega arith)) refl
  to_z_valid (InMemory o k) n l h = rw (h 0 (omega arith), h 1 (omega arith)) refl

  pair_valid : (p : Location) (n : ℕ) → 2 ≤ n → HasPlaces sizes p n → list_all valid (point_code p) ≡ true
  pair_valid (InMemory o k) n l h = to_z_valid (InMemory o k) n l h
  pair_valid (InRegisters r) n l h = by_evenness (r % 2 == 0) refl
    where
      by_evenness : (b : Bool) → (r % 2 == 0) ≡ b
          → list_all valid (if b then Plain (Movw 30 r) ∷ [] else copy_code (InRegisters r) z_pair 2) ≡ true
      by_evenness true e = rw (lt-ltb r 32 (omega arith), e) refl
      by_evenness false e = to_z_valid (InRegisters r) n l h

  from_z_valid : (q : Location) (n : ℕ) → 2 ≤ n → HasPlaces sizes q n → list_all valid (copy_code z_pair q 2) ≡ true
  from_z_valid (InRegisters r) n l h = rw (lt-ltb (r + 0) 32 (omega arith), lt-ltb (r + 1) 32 (omega arith)) refl
  from_z_valid (InMemory o k) n l h = rw (h 0 (omega arith), h 1 (omega arith)) refl

  copy_valid : (p q : Location) → HasPlaces sizes p 2 → HasPlaces sizes q 2 → list_all valid (copy_code p q 2) ≡ true
  copy_valid (InRegisters r) (InRegisters s) h k =
      rw (
        lt-ltb (r + 0) 32 (omega arith),
        lt-ltb (r + 1) 32 (omega arith),
        lt-ltb (s + 0) 32 (omega arith),
        lt-ltb (s + 1) 32 (omega arith),
      ) refl
  copy_valid (InRegisters r) (InMemory o j) h k =
      rw (lt-ltb (r + 0) 32 (omega arith), lt-ltb (r + 1) 32 (omega arith), k 0 (omega arith), k 1 (omega arith)) refl
  copy_valid (InMemory o j) (InRegisters s) h k =
      rw (lt-ltb (s + 0) 32 (omega arith), lt-ltb (s + 1) 32 (omega arith), h 0 (omega arith), h 1 (omega arith)) refl
  copy_valid (InMemory o j) (InMemory u m) h k =
      rw (h 0 (omega arith), h 1 (omega arith), k 0 (omega arith), k 1 (omega arith)) refl

  extend_valid : (signed : Bool) → list_all valid (extend_code signed z_pair 1 2) ≡ true
  extend_valid true = refl
  extend_valid false = refl

  -- what is brought to R30 unless it stands there already
  brought_valid : (p : Location) (n : ℕ) (code : List AsmItem) → HasPlacesOrZ sizes p n
      → (HasPlaces sizes p n → list_all valid code ≡ true) → list_all valid (if is_in_z p then [] else code) ≡ true
  brought_valid p n code h f =
      ⊎_elim (λ (k : HasPlaces sizes p n). by_test valid (is_in_z p) [] code refl (f k)) (λ (k : is_in_z p ≡ true). rw k refl) h

  index_valid : (p : Location) (signed : Bool) (n : ℕ) (b : Bool) → (n == 1) ≡ b → 1 ≤ n → HasPlacesOrZ sizes p n
      → list_all valid (if b then to_z_code p 1 ++ extend_code signed z_pair 1 2 else to_z_code p 2) ≡ true
  index_valid p signed n true e l h =
      both valid (to_z_code p 1) (extend_code signed z_pair 1 2) (brought_valid p n (copy_code p z_pair 1) h (one_valid p n l))
      (extend_valid signed)
  index_valid p signed n false e l h =
      let q = eqb-false n 1 e in brought_valid p n (point_code p) h (pair_valid p n (omega (arith, q)))

  product_valid : (size : ℕ) → size < 65536 → list_all valid (product_code size) ≡ true
  product_valid size l = rw (lt-ltb (size % 256) 256 (omega arith), lt-ltb (size / 256) 256 (omega arith)) refl

  scale_valid : (size : ℕ) → size < 65536 → list_all valid (scale_code size) ≡ true
  scale_valid size l =
      of_each (λ (code : List AsmItem). list_all valid code ≡ true) size refl refl refl refl
      (λ small. rw (lt-ltb size 256 small) refl) (product_valid size l)

  advance_valid : (minus : Bool) (q : Location) → HasPlaces sizes q 2 → list_all valid (advance_code minus q) ≡ true
  advance_valid true (InRegisters r) h = rw (lt-ltb (r + 0) 32 (omega arith), lt-ltb (r + 1) 32 (omega arith)) refl
  advance_valid false (InRegisters r) h = rw (lt-ltb (r + 0) 32 (omega arith), lt-ltb (r + 1) 32 (omega arith)) refl
  advance_valid true (InMemory o k) h = rw (h 0 (omega arith), h 1 (omega arith)) refl
  advance_valid false (InMemory o k) h = rw (h 0 (omega arith), h 1 (omega arith)) refl

  difference_valid : (c : Location) → HasPlaces sizes c 2 → list_all valid (operate_code Difference c z_pair 2) ≡ true
  difference_valid (InRegisters r) h = rw (lt-ltb (r + 0) 32 (omega arith), lt-ltb (r + 1) 32 (omega arith)) refl
  difference_valid (InMemory o k) h = rw (h 0 (omega arith), h 1 (omega arith)) refl

  pub compare_valid : (p q : Location) (n i : ℕ) → HasPlaces sizes p n → HasPlaces sizes q n → i < n
      → list_all valid (compare_byte p q i) ≡ true
  compare_valid (InRegisters r) (InRegisters s) n zero h k l =
      rw (lt-ltb (r + 0) 32 (omega arith), lt-ltb (s + 0) 32 (omega arith)) refl
  compare_valid (InRegisters r) (InRegisters s) n (suc i) h k l =
      rw (lt-ltb (r + suc i) 32 (omega arith), lt-ltb (s + suc i) 32 (omega arith)) refl
  compare_valid (InRegisters r) (InMemory o j) n zero h k l = rw (lt-ltb (r + 0) 32 (omega arith), k 0 l) refl
  compare_valid (InRegisters r) (InMemory o j) n (suc i) h k l = rw (lt-ltb (r + suc i) 32 (omega arith), k (suc i) l) refl
  compare_valid (InMemory o j) (InRegisters s) n zero h k l = rw (lt-ltb (s + 0) 32 (omega arith), h 0 l) refl
  compare_valid (InMemory o j) (InRegisters s) n (suc i) h k l = rw (lt-ltb (s + suc i) 32 (omega arith), h (suc i) l) refl
  compare_valid (InMemory o j) (InMemory u m) n zero h k l = rw (h 0 l, k 0 l) refl
  compare_valid (InMemory o j) (InMemory u m) n (suc i) h k l = rw (h (suc i) l, k (suc i) l) refl

  pub truth_valid : (r : Relation) → list_all valid (truth_code r false) ≡ true
  truth_valid Less = refl
  truth_valid NotLess = refl
  truth_valid Equal = refl
  truth_valid NotEqual = refl

  embed_valid : (to_data : Bool) (q : Location) → HasPlaces sizes q 3 → list_all valid (embed_code to_data q) ≡ true
  embed_valid true (InRegisters b) h = rw (lt-ltb (b + 2) 32 (omega arith), lt-ltb b 32 (omega arith), lt-ltb (b + 1) 32 (omega arith)) refl
  embed_valid true (InMemory o k) h = rw (h 0 (omega arith), h 1 (omega arith), h 2 (omega arith)) refl
  embed_valid false (InRegisters b) h = rw (lt-ltb (b + 2) 32 (omega arith)) refl
  embed_valid false (InMemory o k) h = rw (h 2 (omega arith)) refl

pub steps_are_valid : StepsAreValid
steps_are_valid sizes p q signed minus n size hp some l hq = (
  scale_index_passes (is_valid_item sizes) p signed n size (index_valid sizes p signed n (n == 1) refl some hp)
      (scale_valid sizes size l),
  advance_valid sizes minus q hq,
)

pub orders_are_valid : OrdersAreValid
orders_are_valid sizes r left right n two hl hr =
    let m = at_most_two r n two in
    order_passes (is_valid_item sizes) r left right (compared_bytes r n)
    (λ i l. compare_valid sizes right left n i hr hl (omega (arith, m, l))) (truth_valid sizes r)

pub conversions_are_valid : ConversionsAreValid
conversions_are_valid sizes to_data p q = (λ h. embed_valid sizes to_data q h, λ hp h. copy_valid sizes p q hp h)

pub distances_are_valid : DistancesAreValid
distances_are_valid sizes p c q twos inverse hp hc hq l =
    distance_passes (is_valid_item sizes) p c q twos inverse (to_z_valid sizes p 2 (omega arith) hp)
    (difference_valid sizes c hc) refl (scale_valid sizes inverse l) (from_z_valid sizes q 2 (omega arith) hq)

-- ---- labels

pub has_no_label : (code : List AsmItem) → list_all is_plain code ≡ true → HasNoLabel code
has_no_label code h =
    record {
      uses = λ items. passing is_plain (λ i. is_placed items (used_label i)) (no_use items) code h;
      places = λ l.
          let number = λ (i : AsmItem). cond (is_label l i) 1 0 in
          eqb-true (count_by (is_label l) code) 0
          (sum_by-zero number code ∙ passing is_plain (λ i. number i == 0) (no_place l) code h);
    }

copy_plain : (p q : Location) → list_all is_plain (copy_code p q 2) ≡ true
copy_plain (InRegisters r) (InRegisters s) = refl
copy_plain (InRegisters r) (InMemory o j) = refl
copy_plain (InMemory o j) (InRegisters s) = refl
copy_plain (InMemory o j) (InMemory u m) = refl

one_plain : (p : Location) → list_all is_plain (copy_code p z_pair 1) ≡ true
one_plain (InRegisters r) = refl
one_plain (InMemory o j) = refl

pair_plain : (p : Location) → list_all is_plain (point_code p) ≡ true
pair_plain (InRegisters r) = by_test is_plain (r % 2 == 0) (Plain (Movw 30 r) ∷ []) (copy_code (InRegisters r) z_pair 2) refl refl
pair_plain (InMemory o j) = refl

extend_plain : (signed : Bool) → list_all is_plain (extend_code signed z_pair 1 2) ≡ true
extend_plain true = refl
extend_plain false = refl

index_plain : (p : Location) (signed : Bool) (n : ℕ) → list_all is_plain (index_code p signed n) ≡ true
index_plain p signed n =
    by_test is_plain (n == 1) (to_z_code p 1 ++ extend_code signed z_pair 1 2) (to_z_code p 2)
    (both is_plain (to_z_code p 1) (extend_code signed z_pair 1 2)
    (by_test is_plain (is_in_z p) [] (copy_code p z_pair 1) refl (one_plain p)) (extend_plain signed))
    (by_test is_plain (is_in_z p) [] (point_code p) refl (pair_plain p))

scale_plain : (size : ℕ) → list_all is_plain (scale_code size) ≡ true
scale_plain size = of_each (λ (code : List AsmItem). list_all is_plain code ≡ true) size refl refl refl refl (λ small. refl) refl

advance_plain : (minus : Bool) (q : Location) → list_all is_plain (advance_code minus q) ≡ true
advance_plain true (InRegisters r) = refl
advance_plain false (InRegisters r) = refl
advance_plain true (InMemory o k) = refl
advance_plain false (InMemory o k) = refl

pub compare_plain : (p q : Location) (i : ℕ) → list_all is_plain (compare_byte p q i) ≡ true
compare_plain (InRegisters r) (InRegisters s) i = refl
compare_plain (InRegisters r) (InMemory o j) i = refl
compare_plain (InMemory o j) (InRegisters s) i = refl
compare_plain (InMemory o j) (InMemory u m) i = refl

pub truth_plain : (r : Relation) → list_all is_plain (truth_code r false) ≡ true
truth_plain Less = refl
truth_plain NotLess = refl
truth_plain Equal = refl
truth_plain NotEqual = refl

embed_plain : (to_data : Bool) (q : Location) → list_all is_plain (embed_code to_data q) ≡ true
embed_plain true (InRegisters b) = refl
embed_plain true (InMemory o k) = refl
embed_plain false (InRegisters b) = refl
embed_plain false (InMemory o k) = refl

pub places_have_no_label : PlacesHaveNoLabel
places_have_no_label p q signed minus to_data r n size = (
  has_no_label (scale_index_code p signed n size) (scale_index_passes is_plain p signed n size (index_plain p signed n) (scale_plain size)),
  has_no_label (advance_code minus q) (advance_plain minus q),
  has_no_label (order_code r p q n)
      (order_passes is_plain r p q (compared_bytes r n) (λ i l. compare_plain q p i) (truth_plain r)),
  has_no_label (embed_code to_data q) (embed_plain to_data q),
  has_no_label (narrow_code p q) (copy_plain p q),
)

difference_plain : (c : Location) → list_all is_plain (operate_code Difference c z_pair 2) ≡ true
difference_plain (InRegisters r) = refl
difference_plain (InMemory o k) = refl

pub distances_have_no_label : DistancesHaveNoLabel
distances_have_no_label p c q twos inverse =
    has_no_label (distance_code p c q twos inverse)
    (distance_passes is_plain p c q twos inverse (copy_plain p z_pair) (difference_plain c) refl (scale_plain inverse)
    (copy_plain z_pair q))

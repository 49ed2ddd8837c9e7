-- The items of the code are valid, and have no labels.
use Rattle.std.proofs.Common.{◌≡◌, ℕ, suc, ◌+◌, ◌<◌, ◌≤◌, max, ◌==◌, Bool, true, false, if◌then◌else◌, List, [], ◌∷◌, ◌++◌}
use Rattle.std.proofs.Common.{inl, refl, sym, ap, ◌∙◌, arith, pos}
use Rattle.std.specs.Prelude.{count_by, cond}
use Rattle.std.specs.List.{list_all}
use Rattle.std.proofs.lemmas.Bool.{lt-ltb, eqb-true}
use Rattle.std.proofs.lemmas.List.Folds.{sum_by-zero}
use Rattle.ec_isa.specs.declared.instructions.Instr.TheVariants.{Com, Adc, Eor, Ldi}
use Rattle.ec_fx.specs.declared.formats.Format.{Format}
use Rattle.ec_fx.specs.declared.numbers.Mode.{Mode}
use Rattle.ec_asm.specs.declared.items.AsmItem.{AsmItem}
use Rattle.ec_asm.specs.declared.items.AsmItem.TheVariants.{Plain}
use Rattle.ec_asm.specs.declared.pieces.Location.{Location}
use Rattle.ec_asm.specs.declared.pieces.Location.TheVariants.{InRegisters, InMemory}
use Rattle.ec_asm.specs.declared.pieces.Operator.{Operator}
use Rattle.ec_asm.specs.Items.{branch_if}
use Rattle.ec_asm.specs.Pieces.{instruction, operate_byte, operate_code, compares, compare_byte, compare_code}
use Rattle.ec_asm.specs.Valid.{Sizes, is_valid_item, used_label, is_label, is_placed}
use Rattle.ec_select_bytes.specs.Complements.{complement_byte, complement_code, carry_byte, carry_code, negation_code}
use Rattle.ec_select_order.specs.declared.relations.Relation.{Relation}
use Rattle.ec_select_order.specs.declared.relations.Relation.TheVariants.{Less, NotLess, Equal, NotEqual}
use Rattle.ec_select_order.specs.Relations.{flag_of, is_set, truth_code, relation_code}
use Rattle.ec_fxcode.specs.Clamps.{clamp_code}
use Rattle.ec_fxcode.specs.ClampLaws.{HasPlaces, ClampsAreValid, ClampsUseNoLabel, ClampsPlaceNoLabel}
use Rattle.ec_fxcode.proofs.ValidItems.{both, chain_passes}
use Rattle.ec_fxcode_shifts.proofs.ValidItems.{part_places, PassesPlain}
use Rattle.ec_fxcode_scales.specs.Scales.{scale_code, cut_code}
use Rattle.ec_fxcode_scales.specs.ScaleLaws.{ScalesAreValid, ScalesUseNoLabel, ScalesPlaceNoLabel, CutsAreValid, CutsUseNoLabel}
use Rattle.ec_fxcode_scales.specs.ScaleLaws.{CutsPlaceNoLabel}
use Rattle.ec_fxcode_quotients.proofs.Sizes.{format_sized, bytes_of}
use Rattle.ec_fxcode_quotients.proofs.ValidItems.{further_places, operate_valid, compare_valid}
use Rattle.ec_fxcode_sums.specs.Sums.{raised, raised_bytes, aligned_bytes, second_at, align_code, surplus, cut_if, settle_code}
use Rattle.ec_fxcode_sums.specs.Sums.{operator_of, combine_code, sum_code, negate_code}
use Rattle.ec_fxcode_sums.specs.SumLaws.{SumsAreValid, NegationsAreValid, SumsUseNoLabel, SumsPlaceNoLabel, NegationsUseNoLabel}
use Rattle.ec_fxcode_sums.specs.SumLaws.{NegationsPlaceNoLabel}
use Rattle.ec_fxcode_sums.specs.Orders.{order_code}
use Rattle.ec_fxcode_sums.specs.OrderLaws.{OrdersAreValid, OrdersUseNoLabel, OrdersPlaceNoLabel}
use Rattle.ec_fxcode_sums.proofs.Sizes.{IsPair, paired}

-- ---- code passes a test where its parts do

align_passes : (t : AsmItem → Bool) (f g : Format) (p c w : Location) (a b m : ℕ)
    → list_all t (scale_code f.signed p w a m (raised f g)) ≡ true
    → list_all t (scale_code g.signed c (second_at w) b m (raised g f)) ≡ true
    → list_all t (align_code f g p c w a b m) ≡ true
align_passes t f g p c w a b m first second =
    both t (scale_code f.signed p w a m (raised f g)) (scale_code g.signed c (second_at w) b m (raised g f)) first second

cut_passes : (t : AsmItem → Bool) (w : Location) (m d : ℕ) → list_all t (cut_code w m d) ≡ true
    → list_all t (cut_if w m d) ≡ true
cut_passes t w m d h = by (d == 0)
  where
    by : (b : Bool) → list_all t (if b then [] else cut_code w m d) ≡ true
    by true = refl
    by false = h

combine_passes : (t : AsmItem → Bool) (minus : Bool) (to : Format) (mode : Mode) (w q : Location) (m k d : ℕ)
    → ((i : ℕ) → i < m → list_all t (operate_byte (operator_of minus) (second_at w) w i) ≡ true)
    → list_all t (cut_code w m d) ≡ true → list_all t (clamp_code to mode w q m k) ≡ true
    → list_all t (combine_code minus to mode w q m k d) ≡ true
combine_passes t minus to mode w q m k d bytes cut clamp =
    let op = operator_of minus in
    both t (operate_code op (second_at w) w m) (settle_code to mode w q m k d) (chain_passes t (operate_byte op (second_at w) w) m bytes)
    (both t (cut_if w m d) (clamp_code to mode w q m k) (cut_passes t w m d cut) clamp)

relation_passes : (t : AsmItem → Bool) (r : Relation) (w : Location) (m : ℕ)
    → ((i : ℕ) → i < m → list_all t (compare_byte (second_at w) w i) ≡ true) → list_all t (truth_code r true) ≡ true
    → list_all t (relation_code r true w (second_at w) m) ≡ true
relation_passes t r w m bytes truth =
    both t (compare_code (second_at w) w m) (truth_code r true) (chain_passes t (compare_byte (second_at w) w) m bytes) truth

negation_passes : (t : AsmItem → Bool) (w : Location) (m : ℕ)
    → ((i : ℕ) → i < m → list_all t (complement_byte w i) ≡ true) → list_all t (Plain (Eor 1 1) ∷ []) ≡ true
    → ((i : ℕ) → i < m → list_all t (carry_byte w i) ≡ true) → list_all t (negation_code w m) ≡ true
negation_passes t w m turned none carried =
    both t (complement_code w m) (Plain (Eor 1 1) ∷ carry_code w m) (chain_passes t (complement_byte w) m turned)
    (both t (Plain (Eor 1 1) ∷ []) (carry_code w m) none (chain_passes t (carry_byte w) m carried))

-- ---- fields

complement_valid : (sizes : Sizes) (w : Location) (n i : ℕ) → HasPlaces sizes w n → i < n
    → list_all (is_valid_item sizes) (complement_byte w i) ≡ true
complement_valid sizes (InRegisters r) n i h l = let x : r + i < 32 = omega (arith, h, l) in rw (lt-ltb (r + i) 32 x) refl
complement_valid sizes (InMemory o k) n i h l = rw (h i l) refl

carry_valid : (sizes : Sizes) (w : Location) (n i : ℕ) → HasPlaces sizes w n → i < n
    → list_all (is_valid_item sizes) (carry_byte w i) ≡ true
carry_valid sizes (InRegisters r) n i h l = let x : r + i < 32 = omega (arith, h, l) in rw (lt-ltb (r + i) 32 x) refl
carry_valid sizes (InMemory o k) n i h l = rw (h i l) refl

truth_valid : (sizes : Sizes) (r : Relation) → list_all (is_valid_item sizes) (truth_code r true) ≡ true
truth_valid sizes Less = refl
truth_valid sizes NotLess = refl
truth_valid sizes Equal = refl
truth_valid sizes NotEqual = refl

align_valid : ScalesAreValid → (sizes : Sizes) (f g : Format) (p c w : Location) (a b t m : ℕ) → IsPair f g a b t → suc t ≤ m
    → m ≤ 16 → HasPlaces sizes p a → HasPlaces sizes c b → HasPlaces sizes w 40
    → list_all (is_valid_item sizes) (align_code f g p c w a b m) ≡ true
align_valid scales sizes f g p c w a b t m pair room few hp hc hw =
    let r1 = pair.first_room in
    let r2 = pair.second_room in
    align_passes (is_valid_item sizes) f g p c w a b m
    (scales sizes f.signed p w a m (raised f g) pair.first_scale pair.first.0 (omega (arith, r1, room)) hp
    (part_places sizes w m 40 (omega arith) hw))
    (scales sizes g.signed c (second_at w) b m (raised g f) pair.second_scale pair.second.0 (omega (arith, r2, room)) hc
    (further_places sizes w 16 m 40 (omega arith) hw))

pub sums_are_valid : ScalesAreValid → CutsAreValid → ClampsAreValid → SumsAreValid
sums_are_valid scales cuts clamps sizes minus f g to mode p c q w a b k hf fb hg gb ht tb hp hc hq hw =
    let t = max (raised_bytes a (raised f g)) (raised_bytes b (raised g f)) in
    let m = suc (suc t) in
    let d = surplus f g to in
    let pair = paired f g a b hf fb hg gb in
    let few = pair.few in
    let hm = part_places sizes w m 40 (omega (arith, few)) hw in
    let hs = further_places sizes w 16 m 40 (omega (arith, few)) hw in
    both (is_valid_item sizes) (align_code f g p c w a b m) (combine_code minus to mode w q m k d)
    (align_valid scales sizes f g p c w a b t m pair (omega arith) (omega (arith, few)) hp hc hw)
    (combine_passes (is_valid_item sizes) minus to mode w q m k d
    (λ i l. operate_valid sizes (operator_of minus) (second_at w) w m i hs hm l) (cuts sizes w m d (omega arith) hm)
    (clamps sizes to mode w q m k (omega arith) (bytes_of to.bits to.frac k (format_sized to ht) tb).0 hm hq))

pub orders_are_valid : ScalesAreValid → OrdersAreValid
orders_are_valid scales sizes r f g p c w a b hf fb hg gb hp hc hw =
    let t = max (raised_bytes a (raised f g)) (raised_bytes b (raised g f)) in
    let m = suc t in
    let pair = paired f g a b hf fb hg gb in
    let few = pair.few in
    let hm = part_places sizes w m 40 (omega (arith, few)) hw in
    let hs = further_places sizes w 16 m 40 (omega (arith, few)) hw in
    both (is_valid_item sizes) (align_code f g p c w a b m) (relation_code r true w (second_at w) m)
    (align_valid scales sizes f g p c w a b t m pair (omega arith) (omega (arith, few)) hp hc hw)
    (relation_passes (is_valid_item sizes) r w m (λ i l. compare_valid sizes (second_at w) w m i hs hm l) (truth_valid sizes r))

pub negations_are_valid : ScalesAreValid → ClampsAreValid → NegationsAreValid
negations_are_valid scales clamps sizes f mode p q w k hf fb hp hq hw =
    let m = suc k in
    let size = bytes_of f.bits f.frac k (format_sized f hf) fb in
    let some = size.0 in
    let few = size.1 in
    let t = is_valid_item sizes in
    let hm = part_places sizes w m 40 (omega (arith, few)) hw in
    both t (scale_code f.signed p w k m 0) (negation_code w m ++ clamp_code f mode w q m k)
    (scales sizes f.signed p w k m 0 (inl refl) some (omega arith) hp hm)
    (both t (negation_code w m) (clamp_code f mode w q m k)
    (negation_passes t w m (λ i l. complement_valid sizes w m i hm l) refl (λ i l. carry_valid sizes w m i hm l))
    (clamps sizes f mode w q m k (omega arith) some hm hq))

-- ---- labels: the same tests of items without one

operate_plain : (t : AsmItem → Bool) → PassesPlain t → (op : Operator) (p q : Location) (i : ℕ)
    → list_all t (operate_byte op p q i) ≡ true
operate_plain t h op (InRegisters r) (InRegisters s) i = rw (h.plain (instruction op i (s + i) (r + i))) refl
operate_plain t h op (InMemory o j) (InRegisters s) i = rw (h.load 0 o (j + i), h.plain (instruction op i (s + i) 0)) refl
operate_plain t h op (InRegisters r) (InMemory o j) i =
    rw (h.load 0 o (j + i), h.plain (instruction op i 0 (r + i)), h.store o (j + i) 0) refl
operate_plain t h op (InMemory o j) (InMemory o' j') i =
    rw (h.load 1 o (j + i), h.load 0 o' (j' + i), h.plain (instruction op i 0 1), h.store o' (j' + i) 0) refl

compare_plain : (t : AsmItem → Bool) → PassesPlain t → (p q : Location) (i : ℕ) → list_all t (compare_byte p q i) ≡ true
compare_plain t h (InRegisters r) (InRegisters s) i = rw (h.plain (compares i (s + i) (r + i))) refl
compare_plain t h (InMemory o j) (InRegisters s) i = rw (h.load 0 o (j + i), h.plain (compares i (s + i) 0)) refl
compare_plain t h (InRegisters r) (InMemory o j) i = rw (h.load 0 o (j + i), h.plain (compares i 0 (r + i))) refl
compare_plain t h (InMemory o j) (InMemory o' j') i = rw (h.load 1 o (j + i), h.load 0 o' (j' + i), h.plain (compares i 0 1)) refl

complement_plain : (t : AsmItem → Bool) → PassesPlain t → (w : Location) (i : ℕ) → list_all t (complement_byte w i) ≡ true
complement_plain t h (InRegisters r) i = rw (h.plain (Com (r + i))) refl
complement_plain t h (InMemory o j) i = rw (h.load 0 o (j + i), h.plain (Com 0), h.store o (j + i) 0) refl

carry_plain : (t : AsmItem → Bool) → PassesPlain t → (w : Location) (i : ℕ) → list_all t (carry_byte w i) ≡ true
carry_plain t h (InRegisters r) i = rw (h.plain (Adc (r + i) 1)) refl
carry_plain t h (InMemory o j) i = rw (h.load 0 o (j + i), h.plain (Adc 0 1), h.store o (j + i) 0) refl

truth_plain : (t : AsmItem → Bool) → PassesPlain t → (r : Relation) → list_all t (truth_code r true) ≡ true
truth_plain t h r =
    rw (h.plain (Ldi 30 1), h.plain (branch_if (is_set r) (flag_of r true) (pos 1)), h.plain (Ldi 30 0)) refl

sum_plain : (t : AsmItem → Bool) → PassesPlain t → (minus : Bool) (f g to : Format) (mode : Mode) (p c q w : Location) (a b k : ℕ)
    → ((signed : Bool) (p w : Location) (n m d : ℕ) → list_all t (scale_code signed p w n m d) ≡ true)
    → ((w : Location) (m d : ℕ) → list_all t (cut_code w m d) ≡ true)
    → ((m : ℕ) → 1 ≤ m → list_all t (clamp_code to mode w q m k) ≡ true)
    → list_all t (sum_code minus f g to mode p c q w a b k) ≡ true
sum_plain t h minus f g to mode p c q w a b k scale cut clamp =
    let m = suc (aligned_bytes f g a b) in
    both t (align_code f g p c w a b m) (combine_code minus to mode w q m k (surplus f g to))
    (align_passes t f g p c w a b m (scale f.signed p w a m (raised f g)) (scale g.signed c (second_at w) b m (raised g f)))
    (combine_passes t minus to mode w q m k (surplus f g to) (λ i l. operate_plain t h (operator_of minus) (second_at w) w i)
    (cut w m (surplus f g to)) (clamp m (omega arith)))

order_plain : (t : AsmItem → Bool) → PassesPlain t → (r : Relation) (f g : Format) (p c w : Location) (a b : ℕ)
    → ((signed : Bool) (p w : Location) (n m d : ℕ) → list_all t (scale_code signed p w n m d) ≡ true)
    → list_all t (order_code r f g p c w a b) ≡ true
order_plain t h r f g p c w a b scale =
    let m = aligned_bytes f g a b in
    both t (align_code f g p c w a b m) (relation_code r true w (second_at w) m)
    (align_passes t f g p c w a b m (scale f.signed p w a m (raised f g)) (scale g.signed c (second_at w) b m (raised g f)))
    (relation_passes t r w m (λ i l. compare_plain t h (second_at w) w i) (truth_plain t h r))

negate_plain : (t : AsmItem → Bool) → PassesPlain t → (f : Format) (mode : Mode) (p q w : Location) (k : ℕ)
    → ((signed : Bool) (p w : Location) (n m d : ℕ) → list_all t (scale_code signed p w n m d) ≡ true)
    → list_all t (clamp_code f mode w q (suc k) k) ≡ true → list_all t (negate_code f mode p q w k) ≡ true
negate_plain t h f mode p q w k scale clamp =
    let m = suc k in
    both t (scale_code f.signed p w k m 0) (negation_code w m ++ clamp_code f mode w q m k) (scale f.signed p w k m 0)
    (both t (negation_code w m) (clamp_code f mode w q m k)
    (negation_passes t w m (λ i l. complement_plain t h w i) (rw (h.plain (Eor 1 1)) refl) (λ i l. carry_plain t h w i)) clamp)

-- ---- no label is used

abbrev uses : List AsmItem → AsmItem → Bool
uses items item = is_placed items (used_label item)

uses_plain : (items : List AsmItem) → PassesPlain (uses items)
uses_plain items = record { plain = λ i. refl; load = λ d o j. refl; store = λ o j r. refl }

pub sums_use_no_label : ScalesUseNoLabel → CutsUseNoLabel → ClampsUseNoLabel → SumsUseNoLabel
sums_use_no_label scales cuts clamps items minus f g to mode p c q w a b k some =
    sum_plain (uses items) (uses_plain items) minus f g to mode p c q w a b k (scales items) (cuts items)
    (λ m l. clamps items to mode w q m k l some)

pub orders_use_no_label : ScalesUseNoLabel → OrdersUseNoLabel
orders_use_no_label scales items r f g p c w a b = order_plain (uses items) (uses_plain items) r f g p c w a b (scales items)

pub negations_use_no_label : ScalesUseNoLabel → ClampsUseNoLabel → NegationsUseNoLabel
negations_use_no_label scales clamps items f mode p q w k some =
    negate_plain (uses items) (uses_plain items) f mode p q w k (scales items) (clamps items f mode w q (suc k) k (omega arith) some)

-- ---- none is placed

abbrev is_none : ℕ → AsmItem → Bool
is_none l item = cond (is_label l item) 1 0 == 0

none_plain : (l : ℕ) → PassesPlain (is_none l)
none_plain l = record { plain = λ i. refl; load = λ d o j. refl; store = λ o j r. refl }

to_none : (l : ℕ) (items : List AsmItem) → count_by (is_label l) items ≡ 0 → list_all (is_none l) items ≡ true
to_none l items e = sym (sum_by-zero (λ (item : AsmItem). cond (is_label l item) 1 0) items) ∙ ap (λ (i : ℕ). i == 0) e

from_none : (l : ℕ) (items : List AsmItem) → list_all (is_none l) items ≡ true → count_by (is_label l) items ≡ 0
from_none l items h = eqb-true (count_by (is_label l) items) 0 (sum_by-zero (λ (item : AsmItem). cond (is_label l item) 1 0) items ∙ h)

pub sums_place_no_label : ScalesPlaceNoLabel → CutsPlaceNoLabel → ClampsPlaceNoLabel → SumsPlaceNoLabel
sums_place_no_label scales cuts clamps minus f g to mode p c q w a b k l some =
    from_none l (sum_code minus f g to mode p c q w a b k)
    (sum_plain (is_none l) (none_plain l) minus f g to mode p c q w a b k
    (λ signed p w n m d. to_none l (scale_code signed p w n m d) (scales signed p w n m d l))
    (λ w m d. to_none l (cut_code w m d) (cuts w m d l))
    (λ m x. to_none l (clamp_code to mode w q m k) (clamps to mode w q m k l x some)))

pub orders_place_no_label : ScalesPlaceNoLabel → OrdersPlaceNoLabel
orders_place_no_label scales r f g p c w a b l =
    from_none l (order_code r f g p c w a b)
    (order_plain (is_none l) (none_plain l) r f g p c w a b
    (λ signed p w n m d. to_none l (scale_code signed p w n m d) (scales signed p w n m d l)))

pub negations_place_no_label : ScalesPlaceNoLabel → ClampsPlaceNoLabel → NegationsPlaceNoLabel
negations_place_no_label scales clamps f mode p q w k l some =
    from_none l (negate_code f mode p q w k)
    (negate_plain (is_none l) (none_plain l) f mode p q w k
    (λ signed p w n m d. to_none l (scale_code signed p w n m d) (scales signed p w n m d l))
    (to_none l (clamp_code f mode w q (suc k) k) (clamps f mode w q (suc k) k l (omega arith) some)))

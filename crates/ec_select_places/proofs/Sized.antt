-- The difference of two pointers in elements of any size.
use Rattle.std.proofs.Common.{◌≡◌, ℕ, zero, suc, ◌+◌, ◌*◌, ◌%◌, ◌^◌, ◌<◌, ◌≤◌, ⊎_elim, Bool, true, false}
use Rattle.std.proofs.Common.{refl, sym, ap, ◌∙◌, subst, arith}
use Rattle.std.specs.Prelude.{nat_lt, ◌&&◌, if◌then◌else◌}
use Rattle.std.proofs.lemmas.Bool.{cases_lt, lt-ltb, ltb-true, and_parts}
use Rattle.ec_asm.specs.declared.pieces.Location.{Location}
use Rattle.ec_asm.specs.View.{View}
use Rattle.ec_asm.specs.Change.{Env, Own}
use Rattle.ec_asm.specs.Items.{block}
use Rattle.ec_asm.specs.Pieces.{StandsFrom, value}
use Rattle.ec_asm.specs.PieceLaws.{HoldsNumbers, CopiesAreRight, DifferencesAreRight}
use Rattle.ec_select_places.specs.StepLaws.{LeavesZ}
use Rattle.ec_select_places.specs.Distances.{twos_of, odd_of, inverse_of, divisor_of, distance_code, elements_code}
use Rattle.ec_select_places.specs.DistanceLaws.{signed_number, IsFrom, Differs, DistancesAreRight, ElementsAreRight}
use Rattle.ec_select_places.specs.FarLaws.{FarElementsAreRight}
use Rattle.ec_select_places.specs.Form.{ElementsAreShort, ElementsAreValid, ElementsHaveNoLabel}
use Rattle.ec_select_places.proofs.Apart.{IsWithin, IsLowFrom, low_from, low_within, DistancesBy, low_distances, two_below}
use Rattle.ec_select_places.proofs.Blocks.{first_bytes}
use Rattle.ec_select_places.proofs.Inverted.{inverted, inverse_below, at_most, of_size}
use Rattle.ec_select_places.proofs.Short.{within, distances_are_short}
use Rattle.ec_select_places.proofs.Valid.{distances_are_valid, distances_have_no_label}

-- ---- the size that is divided by

divisor_is : (size : ℕ) → (1 ≤ divisor_of size) × (divisor_of size < 65536)
divisor_is size = by_test (nat_lt 0 size && nat_lt size 65536) ranged
  where
    ranged : (nat_lt 0 size && nat_lt size 65536) ≡ true → (0 < size) × (size < 65536)
    ranged h = let p = and_parts (nat_lt 0 size) (nat_lt size 65536) h in (ltb-true 0 size p.0, ltb-true size 65536 p.1)

    by_test : (b : Bool) → (b ≡ true → (0 < size) × (size < 65536))
        → (1 ≤ (if b then size else 1)) × ((if b then size else 1) < 65536)
    by_test true h = h refl
    by_test false h = (omega arith, omega arith)

-- so many elements apart in the one size and in the other
as_far : (negative : Bool) (size k : ℕ) → 1 ≤ size → IsWithin negative (k * size) → k * size ≡ k * divisor_of size
as_far negative size k some h =
    ⊎_elim
    (λ (q : size < 65536). rw (lt-ltb 0 size some, lt-ltb size 65536 q) refl)
    (λ (q : 65536 ≤ size). let z : k ≡ 0 = none negative k h q in rw z (omega arith))
    (cases_lt size 65536)
  where
    none : (negative : Bool) (k : ℕ) → IsWithin negative (k * size) → 65536 ≤ size → k ≡ 0
    none negative zero h q = refl
    none false (suc j) h q = let m : suc j * size ≡ size + j * size = omega arith in absurd (omega (arith, h, m, q))
    none true (suc j) h q = let m : suc j * size ≡ size + j * size = omega arith in absurd (omega (arith, h, m, q))

-- ---- laws

elements_by : (AreApart : Bool → (x y distance : ℕ) → Type 0)
    → ((negative : Bool) (x y m : ℕ) → AreApart negative x y m → IsWithin negative m)
    → DistancesBy AreApart → (negative : Bool) (e : Env) (p c q : Location) (a b d size k : ℕ) (v : View)
    → StandsFrom e p 2 a Own → LeavesZ a 2
    → StandsFrom e c 2 b Own → LeavesZ b 2 → StandsFrom e q 2 d Own → LeavesZ d 2 → HoldsNumbers v → 1 ≤ size
    → AreApart negative (value v.at a 2) (value v.at b 2) (k * size)
    → Differs v d (signed_number negative k) (block e (elements_code p c q size) v)
elements_by AreApart bound distances negative e p c q a b d size k v sp zp sc zc sq zq h some from =
    let s = divisor_of size in
    let t = divisor_is size in
    let o = of_size s t.0 t.1 in
    let odd = odd_of s in
    let twos = twos_of s in
    let far = as_far negative size k some (bound negative _ _ _ from) in
    let product : k * odd * 2 ^ twos ≡ k * (odd * 2 ^ twos) = omega arith in
    let same : k * size ≡ k * odd * 2 ^ twos = far ∙ (sym (ap (λ i. k * i) o.1) ∙ sym product) in
    distances negative e p c q a b d twos odd (inverse_of odd) k v sp zp sc zc sq zq h (inverted odd o.0) (inverse_below odd)
    (subst (AreApart negative (value v.at a 2) (value v.at b 2)) same from)

from_within : (negative : Bool) (x y m : ℕ) → IsFrom negative x y m → IsWithin negative m
from_within false x y m h = h.1
from_within true x y m h = h.1

pub elements_are_right : DistancesAreRight → ElementsAreRight
elements_are_right distances = elements_by IsFrom from_within distances

-- the low two bytes of three
first_two : (a : ℕ) → LeavesZ a 3 → LeavesZ a 2
first_two a z = record {
  low = λ l. let b = z.low l in omega (arith, b);
  high = λ l. let b = z.high l in omega (arith, b);
}

low_of : (e : Env) (p : Location) (a : ℕ) (v : View) → StandsFrom e p 3 a Own → HoldsNumbers v
    → value v.at a 3 % 65536 ≡ value v.at a 2
low_of e p a v s h = let b = two_below e p a 3 v s h in omega (arith, b)

pub far_elements_are_right : CopiesAreRight → DifferencesAreRight → FarElementsAreRight
far_elements_are_right copies differences negative e p c q a b d size k v sp zp sc zc sq zq h some from =
    let m = k * size in
    let x = value v.at a 3 in
    let low = low_from negative x (value v.at b 3) m from in
    let lx = low_of e p a v sp h in
    let ly = low_of e c b v sc h in
    elements_by IsLowFrom low_within (low_distances copies differences) negative e p c q a b d size k v
    (first_bytes e p 2 3 a (omega arith) sp) (first_two a zp) (first_bytes e c 2 3 b (omega arith) sc) (first_two b zc) sq zq h some
    (subst (λ i. IsLowFrom negative (value v.at a 2) i m) ly (subst (λ i. IsLowFrom negative i (value v.at b 3 % 65536) m) lx low))

pub elements_are_short : ElementsAreShort
elements_are_short p c q size =
    let s = divisor_of size in
    let twos = twos_of s in
    let m = at_most 15 s in
    let inverse = inverse_of (odd_of s) in
    within (distance_code p c q twos inverse) 6 (6 + 2 * twos) (22 + 2 * twos) 52 (32 + 2 * twos) 64 (omega arith) (omega (arith, m))
    (omega (arith, m)) (distances_are_short p c q twos inverse)

pub elements_are_valid : ElementsAreValid
elements_are_valid sizes p c q size hp hc hq =
    let s = divisor_of size in
    distances_are_valid sizes p c q (twos_of s) (inverse_of (odd_of s)) hp hc hq (inverse_below (odd_of s))

pub elements_have_no_label : ElementsHaveNoLabel
elements_have_no_label p c q size =
    let s = divisor_of size in
    distances_have_no_label p c q (twos_of s) (inverse_of (odd_of s))

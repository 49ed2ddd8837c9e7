-- Pointers are moved and compared.
use Rattle.std.proofs.Common.{◌≡◌, ℕ, zero, suc, ◌+◌, ◌*◌, ◌%◌, ◌<◌, ◌≤◌, ◌==◌, ⊎_elim, Bool, true, false, refl, sym, ap, ◌∙◌, subst, arith}
use Rattle.std.specs.Prelude.{not}
use Rattle.std.specs.Int.{from_bool}
use Rattle.std.proofs.lemmas.Bool.{cases_lt}
use Rattle.ec_asm.specs.declared.pieces.Location.{Location}
use Rattle.ec_asm.specs.View.{View}
use Rattle.ec_asm.specs.Change.{Env, Own}
use Rattle.ec_asm.specs.Pieces.{StandsFrom, value}
use Rattle.ec_asm.specs.PieceLaws.{HoldsNumbers, SumsAreRight, DifferencesAreRight, NumbersHaveLowParts}
use Rattle.ec_select_order.specs.declared.relations.Relation.{Relation}
use Rattle.ec_select_order.specs.declared.relations.Relation.TheVariants.{Less, NotLess, Equal, NotEqual}
use Rattle.ec_select_order.specs.Relations.{stand_so}
use Rattle.ec_select_order.specs.Laws.{Tells, RelationsAreTold}
use Rattle.ec_select_places.specs.Numbers.{Place, number_of, offset_of, IsPlace, same_place, places_stand}
use Rattle.ec_select_places.specs.Steps.{z_pair, compared_bytes}
use Rattle.ec_select_places.specs.StepLaws.{LeavesZ, PointersAreAdvanced, PointersAreCompared}
use Rattle.ec_select_places.proofs.Blocks.{first_bytes}
use Rattle.ec_select_places.proofs.Scaled.{z_stands}
use Rattle.ec_select_places.proofs.Places.{places_are_numbers, offsets_are_low}

-- ---- sums

pub above_z : (b n : ℕ) → LeavesZ b (suc n) → 30 < b → 32 ≤ b
above_z b n z l =
    ⊎_elim (λ (q : 31 < b). q) (λ (q : b ≤ 31). let h = z.high (omega arith) in absurd (omega arith)) (cases_lt 31 b)

pub pointers_are_advanced : SumsAreRight → DifferencesAreRight → PointersAreAdvanced
pointers_are_advanced sums differences false e q b v s z h =
    let r = sums e z_pair q 2 30 b v (z_stands e 2) s (above_z b 1 z) h in
    record { number_is = r.1; numbers = r.0.bytes; keeps = r.0.keeps }
pointers_are_advanced sums differences true e q b v s z h =
    let r = differences e z_pair q 2 30 b v (z_stands e 2) s (above_z b 1 z) h in
    record { number_is = r.1; numbers = r.0.bytes; keeps = r.0.keeps }

-- ---- comparisons

told_more : (e : Env) (most more pc end : ℕ) (v : View) (t u : Bool) → most ≤ more → t ≡ u → Tells e most pc v end t
    → Tells e more pc v end u
told_more e most more pc end v t u l q h =
    let a = h.at_most in
    record {
      steps = h.steps;
      at_most = omega (arith, a, l);
      last = h.last;
      goes = h.goes;
      told = subst (λ b. h.last.at 30 ≡ from_bool b) q h.told;
      same = h.same;
      inputs = h.inputs;
      safe = h.safe;
      seen = h.seen;
    }

-- the offset of a pointer of n bytes
low_is : (low : NumbersHaveLowParts) (e : Env) (p : Location) (n a : ℕ) (x : Place) (v : View) → 2 ≤ n
    → StandsFrom e p n a Own → HoldsNumbers v → IsPlace x → value v.at a n ≡ number_of x → value v.at a 2 ≡ offset_of x
low_is low e p n a x v l s h k q =
    let ua = s.clear in
    sym (low v.at a 2 n l (λ j m. h (a + j) (omega arith))) ∙ (ap (λ t. t % 65536) q ∙ offsets_are_low x k)

same_told : (f : ℕ → ℕ) (n a b : ℕ) (x y : Place) → IsPlace x → IsPlace y → value f a n ≡ number_of x → value f b n ≡ number_of y
    → (value f a n == value f b n) ≡ same_place x y
same_told f n a b x y hx hy qx qy =
    ap (λ t. t == value f b n) qx ∙ (ap (λ t. number_of x == t) qy ∙ places_are_numbers x y hx hy)

-- what the bytes that are compared tell of the places
pub places_are_told : NumbersHaveLowParts → (r : Relation) (e : Env) (left right : Location) (n a b : ℕ) (x y : Place) (v : View) → 2 ≤ n
    → StandsFrom e left n a Own → StandsFrom e right n b Own → HoldsNumbers v → IsPlace x → IsPlace y
    → value v.at a n ≡ number_of x → value v.at b n ≡ number_of y
    → stand_so r false (compared_bytes r n) (value v.at a (compared_bytes r n)) (value v.at b (compared_bytes r n)) ≡ places_stand r x y
places_are_told low Less e left right n a b x y v l sa sb h hx hy qx qy =
    let ex = low_is low e left n a x v l sa h hx qx in
    let ey = low_is low e right n b y v l sb h hy qy in
    rw (ex, ey) refl
places_are_told low NotLess e left right n a b x y v l sa sb h hx hy qx qy =
    let ex = low_is low e left n a x v l sa h hx qx in
    let ey = low_is low e right n b y v l sb h hy qy in
    rw (ex, ey) refl
places_are_told low Equal e left right n a b x y v l sa sb h hx hy qx qy =
    same_told v.at n a b x y hx hy qx qy
places_are_told low NotEqual e left right n a b x y v l sa sb h hx hy qx qy =
    ap (λ t. not t) (same_told v.at n a b x y hx hy qx qy)

pub pointers_are_compared : NumbersHaveLowParts → RelationsAreTold → PointersAreCompared
pointers_are_compared low told Less e left right n a b pc end x y v l sa sb h hx hy qx qy at =
    let r = told Less false e left right 1 a b pc end v (first_bytes e left 2 n a l sa) (first_bytes e right 2 n b l sb) h at in
    told_more e 9 (3 + 3 * n) pc end v _ _ (omega arith) (places_are_told low Less e left right n a b x y v l sa sb h hx hy qx qy) r
pointers_are_compared low told NotLess e left right n a b pc end x y v l sa sb h hx hy qx qy at =
    let r = told NotLess false e left right 1 a b pc end v (first_bytes e left 2 n a l sa) (first_bytes e right 2 n b l sb) h at in
    told_more e 9 (3 + 3 * n) pc end v _ _ (omega arith) (places_are_told low NotLess e left right n a b x y v l sa sb h hx hy qx qy) r
pointers_are_compared low told Equal e left right zero a b pc end x y v l sa sb h hx hy qx qy at = absurd (omega arith)
pointers_are_compared low told Equal e left right (suc n) a b pc end x y v l sa sb h hx hy qx qy at =
    let r = told Equal false e left right n a b pc end v sa sb h at in
    told_more e (3 + 3 * suc n) (3 + 3 * suc n) pc end v _ _ (omega arith)
    (places_are_told low Equal e left right (suc n) a b x y v l sa sb h hx hy qx qy) r
pointers_are_compared low told NotEqual e left right zero a b pc end x y v l sa sb h hx hy qx qy at = absurd (omega arith)
pointers_are_compared low told NotEqual e left right (suc n) a b pc end x y v l sa sb h hx hy qx qy at =
    let r = told NotEqual false e left right n a b pc end v sa sb h at in
    told_more e (3 + 3 * suc n) (3 + 3 * suc n) pc end v _ _ (omega arith)
    (places_are_told low NotEqual e left right (suc n) a b x y v l sa sb h hx hy qx qy) r

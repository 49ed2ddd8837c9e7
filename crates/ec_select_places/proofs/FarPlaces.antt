-- Pointers of three bytes with whole addresses as numbers, moved and compared.
use Rattle.std.proofs.Common.{◌≡◌, ◌≢◌, ◌⊎◌, ℕ, zero, suc, ◌+◌, ◌-◌, ◌*◌, ◌/◌, ◌%◌, ◌<◌, ◌≤◌, ⊎_elim, Bool, true, false}
use Rattle.std.proofs.Common.{refl, sym, ap, ◌∙◌, subst, arith}
use Rattle.std.specs.Prelude.{not, nat_lt, if◌then◌else◌}
use Rattle.std.proofs.lemmas.Bool.{cases_eq, cases_lt, eq-eqb, ne_eqb, lt-ltb}
use Rattle.std.proofs.lemmas.Bool.Decides.{nat_tests}
use Rattle.ec_isa.specs.declared.instructions.Instr.TheVariants.{Movw, Mov, Add, Sbc}
use Rattle.ec_asm.specs.declared.pieces.Location.TheVariants.{InRegisters}
use Rattle.ec_asm.specs.View.{View}
use Rattle.ec_asm.specs.Change.{Env, Own, change}
use Rattle.ec_asm.specs.Items.{block}
use Rattle.ec_asm.specs.Pieces.{StandsFrom, Outside, value, operate_code}
use Rattle.ec_asm.specs.PieceLaws.{HoldsNumbers, SumsAreRight, DifferencesAreRight}
use Rattle.ec_asm.proofs.Bytes.{put_other}
use Rattle.ec_asm.proofs.Hoare.{block-append}
use Rattle.ec_select_order.specs.declared.relations.Relation.{Relation}
use Rattle.ec_select_order.specs.declared.relations.Relation.TheVariants.{Less, NotLess, Equal, NotEqual}
use Rattle.ec_select_order.specs.Laws.{Tells, RelationsAreTold}
use Rattle.ec_select_order.specs.Relations.{stand_so}
use Rattle.ec_select_places.specs.Numbers.{Place, number_of, places_stand}
use Rattle.ec_select_places.specs.Numbers.Place.{Null, At}
use Rattle.ec_select_places.specs.Steps.{sign_operator}
use Rattle.ec_select_places.specs.Far.{extend_z}
use Rattle.ec_select_places.specs.FarLaws.{IsFarPlace, FarPlacesFit, FarPlacesAreNumbers, FarPlacesAreInOrder, MayRelate}
use Rattle.ec_select_places.specs.FarLaws.{extended, LeavesWork, FarAdvances, FarPointersAreAdvanced, FarPointersAreCompared}
use Rattle.ec_select_places.proofs.Blocks.{pair_other}

-- ---- numbers

-- a tag is a multiple of 128 by 0 or 1
as_bank : (t : ℕ) → (t ≡ 0x00) ⊎ (t ≡ 0x80) → (b : ℕ) × (t ≡ 128 * b) × (b ≤ 1)
as_bank t h =
    ⊎_elim
    (λ (q : t ≡ 0x00). (0, omega (arith, q), omega arith))
    (λ (q : t ≡ 0x80). (1, omega (arith, q), omega arith))
    h

pub far_places_fit : FarPlacesFit
far_places_fit Null h = omega arith
far_places_fit (At t x) h =
    let l = h.1 in
    let b = as_bank t h.2 in
    let is = b.1 in
    let most = b.2 in
    omega (arith, l, is, most)

pub far_places_are_numbers : FarPlacesAreNumbers
far_places_are_numbers Null Null h k = refl
far_places_are_numbers Null (At u y) h k = let l = k.0 in ne_eqb 0 (y + u * 65536) (omega (arith, l))
far_places_are_numbers (At t x) Null h k = let l = h.0 in ne_eqb (x + t * 65536) 0 (omega (arith, l))
far_places_are_numbers (At t x) (At u y) h k =
    let hx = h.1 in
    let hy = k.1 in
    let bt = as_bank t h.2 in
    let bu = as_bank u k.2 in
    let it = bt.1 in
    let iu = bu.1 in
    ⊎_elim
    (λ (q : x ≡ y).
    ⊎_elim
    (λ (r : t ≡ u). rw (eq-eqb (x + t * 65536) (y + u * 65536) (omega (arith, q, r)), eq-eqb x y q, eq-eqb t u r) refl)
    (λ (r : t ≢ u). rw (ne_eqb (x + t * 65536) (y + u * 65536) (omega (arith, q, r)), eq-eqb x y q, ne_eqb t u r) refl)
    (cases_eq t u))
    (λ (q : x ≢ y). rw (ne_eqb (x + t * 65536) (y + u * 65536) (omega (arith, q, hx, hy, it, iu)), ne_eqb x y q) refl)
    (cases_eq x y)

not_below : (a b : ℕ) → b ≤ a → nat_lt a b ≡ false
not_below a b h = grind (arith, nat_tests)

pub far_places_are_in_order : FarPlacesAreInOrder
far_places_are_in_order Null Null h k one = refl
far_places_are_in_order Null (At u y) h k one =
    let l = k.0 in rw (lt-ltb 0 (y + u * 65536) (omega (arith, l)), lt-ltb 0 y l) refl
far_places_are_in_order (At t x) Null h k one = rw (not_below (x + t * 65536) 0 (omega arith), not_below x 0 (omega arith)) refl
far_places_are_in_order (At t x) (At u y) h k one =
    ⊎_elim
    (λ (q : x < y). rw (lt-ltb (x + t * 65536) (y + u * 65536) (omega (arith, q, one)), lt-ltb x y q) refl)
    (λ (q : y ≤ x). rw (not_below (x + t * 65536) (y + u * 65536) (omega (arith, q, one)), not_below x y q) refl)
    (cases_lt x y)

-- ---- sums

-- R10:R9:R8 has a number of two bytes extended by its sign, and all else is kept but R11 and the flags
record Extends (v w : View) : Type 0 where
  number_is : value w.at 8 3 ≡ extended (value v.at 30 2)
  numbers : HoldsNumbers w
  same : (k : ℕ) → Outside 8 4 k → w.at k ≡ v.at k
  inputs : w.inputs ≡ v.inputs
  safe : w.safe ≡ v.safe
  seen : w.seen ≡ v.seen

extended_is : (x y : ℕ) → x < 256 → y < 256 → x + y * 256 + (256 - (y + y) / 256) % 256 * 65536 ≡ extended (x + y * 256)
extended_is x y l m =
    ⊎_elim
    (λ (q : y < 128). rw (lt-ltb (x + y * 256) 32768 (omega (arith, l, q))) (omega (arith, q)))
    (λ (q : 128 ≤ y). rw (not_below (x + y * 256) 32768 (omega (arith, q))) (omega (arith, q, m)))
    (cases_lt y 128)

z_extends : (e : Env) (v : View) → HoldsNumbers v → Extends v (block e extend_z v)
z_extends e v h =
    let v1 = change e (Movw 8 30) v in
    let v2 = change e (Mov 10 31) v1 in
    let v3 = change e (Add 10 10) v2 in
    let w = change e (Sbc 10 10) v3 in
    let x = v.at 30 in
    let y = v.at 31 in
    let s0 : x < 256 = h 30 (omega arith) in
    let s1 : y < 256 = h 31 (omega arith) in
    let low : w.at 8 ≡ (x + 256 * y) % 256 = refl in
    let mid : w.at 9 ≡ (x + 256 * y) / 256 = refl in
    let r = v3.at 10 in
    let c = v3.flags.c in
    let carry : c ≡ (y + y + 0) / 256 = refl in
    let top : w.at 10 ≡ (256 - (y + y) / 256) % 256 = let is = carry in omega (arith, is, s1) in
    let other : (k : ℕ) → k ≢ 8 → k ≢ 9 → k ≢ 10 → w.at k ≡ v.at k =
    λ k n8 n9 n10.
    put_other v3.at 10 _ k n10 ∙ put_other v2.at 10 _ k n10 ∙ put_other v1.at 10 y k n10 ∙ pair_other v.at 8 _ k n8 n9 in
    let is = extended_is x y s0 s1 in
    let number : value v.at 30 2 ≡ x + y * 256 = omega arith in
    let bytes : value w.at 8 3 ≡ x + y * 256 + (256 - (y + y) / 256) % 256 * 65536 =
    rw (low, mid, top) (omega (arith, s0, s1)) in
    record {
      number_is = bytes ∙ (is ∙ ap (λ i. extended i) (sym number));
      numbers = λ k u.
          ⊎_elim
          (λ (q : k ≡ 8). rw (q, low) (omega arith))
          (λ (q : k ≢ 8).
          ⊎_elim
          (λ (r : k ≡ 9). rw (r, mid) (omega (arith, s0, s1)))
          (λ (r : k ≢ 9).
          ⊎_elim
          (λ (t : k ≡ 10). rw (t, top) (omega arith))
          (λ (t : k ≢ 10). rw (other k q r t) (h k u))
          (cases_eq k 10))
          (cases_eq k 9))
          (cases_eq k 8);
      same = λ k o.
          other k (λ (q : k ≡ 8). let b = o (omega (arith, q)) in omega (arith, q, b))
          (λ (q : k ≡ 9). let b = o (omega (arith, q)) in omega (arith, q, b))
          (λ (q : k ≡ 10). let b = o (omega (arith, q)) in omega (arith, q, b));
      inputs = refl;
      safe = refl;
      seen = refl;
    }

from_work : (e : Env) → StandsFrom e (InRegisters 8) 3 8 Own
from_work e = record { at = λ i l. refl; kind = λ i l. refl; clear = omega arith }

above_work : (b : ℕ) → LeavesWork b 3 → 8 < b → 8 + 3 ≤ b
above_work b o l = let g = o 0 (omega arith) (omega (arith, l)) in omega (arith, g)

pub far_pointers_are_advanced : SumsAreRight → DifferencesAreRight → FarPointersAreAdvanced
far_pointers_are_advanced sums differences minus e q b v s z o h =
    rw (block-append e extend_z (operate_code (sign_operator minus) (InRegisters 8) q 3) v) (by_sign minus)
  where
    v1 : View
    v1 = block e extend_z v

    x : Extends v v1
    x = z_extends e v h

    pointer : value v1.at b 3 ≡ value v.at b 3
    pointer =
        let b0 = x.same (b + 0) (o 0 (omega arith)) in
        let b1 = x.same (b + 1) (o 1 (omega arith)) in
        let b2 = x.same (b + 2) (o 2 (omega arith)) in
        rw (b0, b1, b2) refl

    by_sign : (minus : Bool) → FarAdvances v b
        (if minus then (value v.at b 3 + 16777216 - extended (value v.at 30 2)) % 16777216
        else (value v.at b 3 + extended (value v.at 30 2)) % 16777216)
        (block e (operate_code (sign_operator minus) (InRegisters 8) q 3) v1)
    by_sign false =
        let r = sums e (InRegisters 8) q 3 8 b v1 (from_work e) s (above_work b o) x.numbers in
        record {
          number_is = r.1 ∙ ap (λ t. (t + value v1.at 8 3) % 16777216) pointer
              ∙ ap (λ t. (value v.at b 3 + t) % 16777216) x.number_is;
          numbers = r.0.bytes;
          same = λ k n0 n1 n8 f. r.0.keeps.same k n0 n1 f ∙ x.same k n8;
          inputs = r.0.keeps.inputs ∙ x.inputs;
          safe = r.0.keeps.safe ∙ x.safe;
          seen = r.0.keeps.seen ∙ x.seen;
        }
    by_sign true =
        let r = differences e (InRegisters 8) q 3 8 b v1 (from_work e) s (above_work b o) x.numbers in
        record {
          number_is = r.1 ∙ ap (λ t. (t + 16777216 - value v1.at 8 3) % 16777216) pointer
              ∙ ap (λ t. (value v.at b 3 + 16777216 - t) % 16777216) x.number_is;
          numbers = r.0.bytes;
          same = λ k n0 n1 n8 f. r.0.keeps.same k n0 n1 f ∙ x.same k n8;
          inputs = r.0.keeps.inputs ∙ x.inputs;
          safe = r.0.keeps.safe ∙ x.safe;
          seen = r.0.keeps.seen ∙ x.seen;
        }

-- ---- comparisons

-- what the numbers tell of the places
places_told : (r : Relation) (n : ℕ) (x y : Place) → IsFarPlace x → IsFarPlace y → MayRelate r x y
    → stand_so r false n (number_of x) (number_of y) ≡ places_stand r x y
places_told Less n x y h k m = far_places_are_in_order x y h k m
places_told NotLess n x y h k m = ap (λ t. not t) (far_places_are_in_order x y h k m)
places_told Equal n x y h k m = far_places_are_numbers x y h k
places_told NotEqual n x y h k m = ap (λ t. not t) (far_places_are_numbers x y h k)

pub far_places_are_told : (r : Relation) (n a b : ℕ) (x y : Place) (v : View) → IsFarPlace x → IsFarPlace y → MayRelate r x y
    → value v.at a n ≡ number_of x → value v.at b n ≡ number_of y
    → stand_so r false n (value v.at a n) (value v.at b n) ≡ places_stand r x y
far_places_are_told r n a b x y v hx hy m qx qy =
    let s = stand_so r false n in
    ap (λ i. s i (value v.at b n)) qx ∙ ap (λ i. s (number_of x) i) qy ∙ places_told r n x y hx hy m

pub far_pointers_are_compared : RelationsAreTold → FarPointersAreCompared
far_pointers_are_compared told r e left right zero a b pc end x y v l sa sb h hx hy m qx qy at = absurd (omega arith)
far_pointers_are_compared told r e left right (suc n) a b pc end x y v l sa sb h hx hy m qx qy at =
    let t = told r false e left right n a b pc end v sa sb h at in
    subst (λ (truth : Bool). Tells e (3 + 3 * suc n) pc v end truth) (far_places_are_told r (suc n) a b x y v hx hy m qx qy) t

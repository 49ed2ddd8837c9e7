-- Half of a number, rounded toward zero.
use Rattle.std.proofs.Common.{◌≡◌, ◌≢◌, ◌⊎◌, inl, inr, ℕ, suc, ◌+◌, ◌-◌, ◌*◌, ◌/◌, ◌^◌, ◌<◌, ◌≤◌, ⊎_elim, true, false, refl, sym}
use Rattle.std.proofs.Common.{ap, ◌∙◌, subst, arith, ◌++◌}
use Rattle.std.specs.Prelude.{nat_le, if◌then◌else◌}
use Rattle.std.proofs.lemmas.Bool.{cases_lt, cases_eq, le-leb}
use Rattle.std.proofs.lemmas.Bool.Decides.{nat_tests}
use Rattle.std.proofs.lemmas.Nat.{shr-shr}
use Rattle.std.proofs.Math.Nat.{zero-div}
use Rattle.ec_asm.specs.declared.pieces.Location.{Location}
use Rattle.ec_asm.specs.View.{View}
use Rattle.ec_asm.specs.Change.{Env, Own}
use Rattle.ec_asm.specs.Items.{block}
use Rattle.ec_asm.specs.Pieces.{StandsFrom, Outside, value, halve_code}
use Rattle.ec_asm.specs.PieceLaws.{HoldsNumbers}
use Rattle.ec_asm.proofs.Hoare.{block-append}
use Rattle.ec_asm.proofs.Numbers.{value_below}
use Rattle.ec_asm.proofs.Sum.{value-same}
use Rattle.ec_select_shifts.specs.declared.shifts.Direction.TheVariants.{Right}
use Rattle.ec_select_shifts.proofs.Once.{turned}
use Rattle.ec_fxcode.specs.Clamps.{sign_code}
use Rattle.ec_fxcode.specs.ClampLaws.{IsClearOfEnds}
use Rattle.ec_fxcode.proofs.Alike.{fill}
use Rattle.ec_fxcode.proofs.Moves.{signs, clear_byte}
use Rattle.ec_fxcode.proofs.Parts.{IsSign, sign_is}
use Rattle.ec_fxcode_placed.specs.Shifts.{raise_code, half_code}
use Rattle.ec_fxcode_placed.proofs.Raised.{raises}

-- ---- numbers

-- y is x over p, rounded toward zero, where numbers from half of N on stand for themselves less N
pub record IsToward (N x p y : ℕ) : Type 0 where
  pub below : y < N
  pub plus : 2 * x < N → y ≡ x / p
  pub minus : N ≤ 2 * x → (t : ℕ) × (t ≤ 1) × (y + (N - x) / p ≡ t * N)

pub not_turned : (N x : ℕ) → x < N → IsToward N x (2 ^ 0) x
not_turned N x l = record { below = l; plus = λ less. omega arith; minus = λ more. (1, omega arith, omega (arith, l)) }

halves_again : (x k : ℕ) → x / 2 / 2 ^ k ≡ x / 2 ^ suc k
halves_again x k = let e : 1 + k ≡ suc k = omega arith in shr-shr x 1 k ∙ ap (λ j. x / 2 ^ j) e

pub turned_again : (N x y z k : ℕ) → x < N → IsToward N x 2 y → IsToward N y (2 ^ k) z → IsToward N x (2 ^ suc k) z
turned_again N x y z k l first rest = record {
  below = rest.below;
  plus = λ less.
      let a = first.plus less in
      let b = rest.plus (omega (arith, a, less)) in
      b ∙ ap (λ t. t / 2 ^ k) a ∙ halves_again x k;
  minus = λ more.
      let a = first.minus more in
      let m = N - x in
      let again = halves_again m k in
      by_bit a.0 a.1 a.2 again (cases_eq a.0 0);
}
  where
    by_bit : (t : ℕ) → t ≤ 1 → y + (N - x) / 2 ≡ t * N → (N - x) / 2 / 2 ^ k ≡ (N - x) / 2 ^ suc k → (t ≡ 0) ⊎ (t ≢ 0)
        → (u : ℕ) × (u ≤ 1) × (z + (N - x) / 2 ^ suc k ≡ u * N)
    by_bit t b e again (inl none) =
        let e0 : y + (N - x) / 2 ≡ 0 * N = subst (λ (i : ℕ). y + (N - x) / 2 ≡ i * N) none e in
        let h : (N - x) / 2 ≡ 0 = omega (arith, e0) in
        let y0 : y ≡ 0 = omega (arith, e0) in
        let some = first.below in
        let q = rest.plus (omega (arith, y0, some)) in
        let z0 : z ≡ 0 = q ∙ ap (λ s. s / 2 ^ k) y0 ∙ zero-div (2 ^ k) in
        let m0 : (N - x) / 2 ^ suc k ≡ 0 = sym again ∙ ap (λ s. s / 2 ^ k) h ∙ zero-div (2 ^ k) in
        (0, omega arith, omega (arith, z0, m0))
    by_bit t b e again (inr one) =
        let t1 : t ≡ 1 = omega (arith, b, one) in
        let e1 : y + (N - x) / 2 ≡ 1 * N = subst (λ (i : ℕ). y + (N - x) / 2 ≡ i * N) t1 e in
        let lo = first.below in
        let q = rest.minus (omega (arith, e1, l)) in
        let m : N - y ≡ (N - x) / 2 = omega (arith, e1) in
        let z1 : z + (N - y) / 2 ^ k ≡ q.0 * N = q.2 in
        (q.0, q.1, ap (λ s. z + s) (sym again ∙ ap (λ s. s / 2 ^ k) (sym m)) ∙ z1)

-- ---- the code of one bit

pub record Halved (v w : View) (a n : ℕ) : Type 0 where
  pub toward : IsToward (256 ^ n) (value v.at a n) 2 (value w.at a n)
  pub numbers : HoldsNumbers w
  pub same : (k : ℕ) → k ≢ 0 → k ≢ 1 → k ≢ 31 → Outside a n k → w.at k ≡ v.at k
  pub inputs : w.inputs ≡ v.inputs
  pub safe : w.safe ≡ v.safe
  pub seen : w.seen ≡ v.seen

-- 1 was added to x where it is negative, and what came of it was halved
halved_is : (N x m u c y : ℕ) → x < N → u < N → c ≤ 1 → IsSign x N m → (m ≡ 0 → u ≡ x) → (m ≡ 255 → u + N ≡ x + 1 + c * N)
    → y ≡ (if nat_le N (2 * u) then (u + N) / 2 else u / 2) → IsToward N x 2 y
halved_is N x m u c y l k b sign plus minus is =
    ⊎_elim
    (λ (less : 2 * x < N).
    let e : u ≡ x = plus (sign.plus less) in
    let f : nat_le N (2 * u) ≡ false = not_le N (2 * u) (omega (arith, e, less)) in
    let g : y ≡ u / 2 = is ∙ rw f refl in
    record { below = omega (arith, g, e, l); plus = λ z. omega (arith, g, e); minus = λ more. absurd (omega (arith, more, less)) })
    (λ (more : N ≤ 2 * x).
    let e = minus (sign.minus more) in
    by_carry more (cases_eq c 0) e)
    (cases_lt (2 * x) N)
  where
    not_le : (a b : ℕ) → b < a → nat_le a b ≡ false
    not_le a b h = grind (arith, nat_tests)

    by_carry : N ≤ 2 * x → (c ≡ 0) ⊎ (c ≢ 0) → u + N ≡ x + 1 + c * N → IsToward N x 2 y
    by_carry more (inl none) e =
        let e0 : u + N ≡ x + 1 + 0 * N = subst (λ (i : ℕ). u + N ≡ x + 1 + i * N) none e in
        let z : u ≡ 0 = omega (arith, e0, l) in
        let f : nat_le N (2 * u) ≡ false = not_le N (2 * u) (omega (arith, z, l)) in
        let g : y ≡ u / 2 = is ∙ rw f refl in
        record {
          below = omega (arith, g, z, l);
          plus = λ less. absurd (omega (arith, more, less));
          minus = λ w. (0, omega arith, omega (arith, g, z, e0, l));
        }
    by_carry more (inr one) e =
        let c1 : c ≡ 1 = omega (arith, b, one) in
        let e1 : u + N ≡ x + 1 + 1 * N = subst (λ (i : ℕ). u + N ≡ x + 1 + i * N) c1 e in
        let f : nat_le N (2 * u) ≡ true = le-leb N (2 * u) (omega (arith, e1, more)) in
        let g : y ≡ (u + N) / 2 = is ∙ rw f refl in
        record {
          below = omega (arith, g, k);
          plus = λ less. absurd (omega (arith, more, less));
          minus = λ w. (1, omega arith, omega (arith, g, e1, l));
        }

pub halves : (e : Env) (p : Location) (n a : ℕ) (v : View) → StandsFrom e p (suc n) a Own → IsClearOfEnds a (suc n) → HoldsNumbers v
    → Halved v (block e (half_code p (suc n)) v) a (suc n)
halves e p n a v st clear numbers =
    let k = suc n in
    let two = st.clear in
    let first = sign_code p k in
    let second = raise_code p k in
    let third = halve_code true p k in
    let v1 = block e first v in
    let v2 = block e second v1 in
    let v3 = block e third v2 in
    let top : v.at (a + n) < 256 = numbers (a + n) (omega arith) in
    let s = signs e p n (a + n) v (st.at n (omega arith)) (st.kind n (omega arith)) top in
    let m = fill (v.at (a + n)) in
    let row = λ (j : ℕ) (l : j < k). s.same (a + j) (clear_byte a k j clear two l).0 (clear_byte a k j clear two l).3 in
    let held = λ (j : ℕ) (l : j < k). (let r : v.at (a + j) < 256 = numbers (a + j) (omega arith) in r) in
    let same1 : value v1.at a k ≡ value v.at a k = value-same v1.at v.at a k row in
    let small : m < 256 = filled (v.at (a + n)) top in
    let numbers1 : HoldsNumbers v1 = λ j l. ⊎_elim (λ (q : j ≡ 31). rw (q, s.sign) small)
    (λ (q : j ≢ 31). rw (s.same j (omega arith) q) (numbers j l)) (cases_eq j 31) in
    let r = raises e p k a m v1 st clear numbers1 s.sign small in
    let numbers2 : HoldsNumbers v2 = after v1 v2 k numbers1 r.held (λ j x y z. r.keeps.same j x y z) in
    let t = turned (Right true) e p n a v2 st numbers2 in
    let below2 : value v2.at a k < 256 ^ k = value_below v2.at a k r.held in
    rw (block-append e first (second ++ third) v, block-append e second third v1)
    (record {
      toward = halved_is (256 ^ k) (value v.at a k) m (value v2.at a k) v2.flags.c (value v3.at a k)
          (value_below v.at a k held) below2 r.bit (sign_is v.at a n held)
          (λ z. (r.plus z).0 ∙ same1) (λ z. r.minus z ∙ ap (λ i. i + 1 + v2.flags.c * 256 ^ k) same1) t.number_is;
      numbers = t.numbers;
      same = λ j x y z o. t.keeps.same j x y o ∙ r.keeps.same j x y o ∙ s.same j x z;
      inputs = t.keeps.inputs ∙ r.keeps.inputs ∙ s.inputs;
      safe = t.keeps.safe ∙ r.keeps.safe ∙ s.safe;
      seen = t.keeps.seen ∙ r.keeps.seen ∙ s.seen;
    })
  where
    filled : (x : ℕ) → x < 256 → fill x < 256
    filled x l = omega (arith, l)

    after : (v w : View) (k : ℕ) → HoldsNumbers v → ((j : ℕ) → j < k → w.at (a + j) < 256)
        → ((j : ℕ) → j ≢ 0 → j ≢ 1 → Outside a k j → w.at j ≡ v.at j) → HoldsNumbers w
    after v w k h held same j l =
        ⊎_elim (λ (x : j < a). rw (same j (omega arith) (omega arith) (λ q. absurd (omega arith))) (h j l))
        (λ (x : a ≤ j).
        ⊎_elim
        (λ (y : j < a + k). let z : a + (j - a) ≡ j = omega arith in subst (λ (i : ℕ). w.at i < 256) z (held (j - a) (omega arith)))
        (λ (y : a + k ≤ j). rw (same j (omega arith) (omega arith) (λ q. y)) (h j l)) (cases_lt j (a + k)))
        (cases_lt j a)

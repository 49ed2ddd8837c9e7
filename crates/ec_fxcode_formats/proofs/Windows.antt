-- Numbers: what is left of a magnitude without some of its bits, and what it is with its sign.
use Rattle.std.proofs.Common.{◌≡◌, ℕ, zero, suc, ◌+◌, ◌-◌, ◌*◌, ◌/◌, ◌%◌, ◌^◌, ◌<◌, ◌≤◌, Bool, true, false, refl, sym, ap, ◌∙◌}
use Rattle.std.proofs.Common.{subst, arith, ℤ, pos, negsuc, neg_ℤ, pow-add, Some}
use Rattle.std.specs.Prelude.{None, int_lt, ◌||◌, if◌then◌else◌}
use Rattle.std.proofs.lemmas.Int.{ints}
use Rattle.std.proofs.lemmas.Nat.{div-mul-add, div-add-mod'}
use Rattle.std.proofs.Math.Nat.{div-div-eq-div-mul}
use native.Mathlib.Nat.{pow-suc}
use Rattle.ec_fx.specs.Conversions.{held}
use Rattle.ec_fx.specs.Ranges.{least, greatest}
use Rattle.ec_fx.specs.Rounding.{trunc}
use Rattle.ec_asm.specs.Pieces.{value}
use Rattle.ec_asm.proofs.Numbers.{value_below}
use Rattle.ec_fxcode.specs.ClampLaws.{in_bytes}
use Rattle.ec_fxcode.proofs.Alike.{value_parts}
use Rattle.ec_fxcode.proofs.Clamped.{bits_power, half_power, two_halves, some_half}
use Rattle.ec_fxcode_formats.specs.FormatLaws.{HoldsExact}

-- ---- the low part of a number

-- R is Z modulo P
pub record IsLow (P R Z : ℕ) : Type 0 where
  pub rest : ℕ
  pub is : Z ≡ R + P * rest
  pub below : R < P

-- all of it where it is below P
only_low : (P R Z : ℕ) → IsLow P R Z → Z < P → R ≡ Z
only_low P R Z h l = by_rest h.rest h.is
  where
    by_rest : (k : ℕ) → Z ≡ R + P * k → R ≡ Z
    by_rest zero e = omega (arith, e)
    by_rest (suc k) e = absurd (omega (arith, e, l))

-- k bytes above q bytes
pub window : (f : ℕ → ℕ) (a q k M h : ℕ) → ((j : ℕ) → j < q + k → f (a + j) < 256) → M ≡ value f a (q + k) + 256 ^ (q + k) * h
    → IsLow (256 ^ k) (value f (a + q) k) (M / 256 ^ q)
window f a q k M h held e =
    let parts = value_parts f a q k in
    let power : 256 ^ (q + k) ≡ 256 ^ q * 256 ^ k = pow-add 256 q k in
    let low = value_below f a q (λ j l. held j (omega arith)) in
    let whole : M ≡ (value f (a + q) k + 256 ^ k * h) * 256 ^ q + value f a q =
    e ∙ rw (parts, power) (omega arith) in
    record {
      rest = h;
      is = ap (λ t. t / 256 ^ q) whole ∙ div-mul-add (value f (a + q) k + 256 ^ k * h) (256 ^ q) (value f a q) low;
      below = value_below f (a + q) k
          (λ j l. let at : a + (q + j) ≡ a + q + j = omega arith in subst (λ i. f i < 256) at (held (q + j) (omega arith)));
    }

-- the bytes above the lowest one of what was doubled
pub doubled : (n Y D b R X : ℕ) → IsLow (256 ^ suc n) Y X → D ≡ (Y + Y) % 256 ^ suc n → D ≡ b + 256 * R → b < 256 → R < 256 ^ n
    → IsLow (256 ^ n) R (X / 128)
doubled n Y D b R X h d parts small below =
    let P = 256 ^ n in
    let c = (Y + Y) / 256 ^ suc n in
    let power : 256 ^ suc n ≡ P * 256 = pow-suc 256 n in
    let cut = div-add-mod' (Y + Y) (256 ^ suc n) in
    let is = h.is in
    let first : c * (P * 256) + D ≡ Y + Y = ap (λ t. c * t + D) (sym power) ∙ ap (λ t. c * 256 ^ suc n + t) d ∙ cut in
    let second : X ≡ Y + P * 256 * h.rest = is ∙ ap (λ t. Y + t * h.rest) power in
    let s = R + P * (c + 2 * h.rest) in
    let twice : X + X ≡ b + 256 * s = omega (arith, first, second, parts) in
    record { rest = c + 2 * h.rest; is = omega (arith, twice, small); below = below }

-- ---- powers

pub whole_bytes : (d q : ℕ) → d ≡ 8 * q → 2 ^ d ≡ 256 ^ q
whole_bytes d q e = ap (λ t. 2 ^ t) e ∙ bits_power q

pub seven_more : (M d q : ℕ) → d ≡ 8 * q + 7 → M / 256 ^ q / 128 ≡ M / 2 ^ d
seven_more M d q e =
    let power : 2 ^ d ≡ 256 ^ q * 128 = ap (λ t. 2 ^ t) e ∙ pow-add 2 (8 * q) 7 ∙ ap (λ t. t * 128) (bits_power q) in
    div-div-eq-div-mul M (256 ^ q) 128 ∙ ap (λ t. M / t) (sym power)

half_below : (n : ℕ) → 1 ≤ n → 2 ^ (8 * n - 1) < 256 ^ n
half_below zero l = absurd (omega arith)
half_below (suc k) l =
    let half = half_power k in
    let two = two_halves k in
    let some = some_half k in
    omega (arith, half, two, some)

-- ---- in the range of so many bytes

record IsHeld (signed : Bool) (width : ℕ) (m i : ℤ) : Type 0 where
  same : i ≡ m
  high : int_lt (greatest signed width) m ≡ false
  low : int_lt m (least signed width) ≡ false

held_is : (signed : Bool) (width : ℕ) (m i : ℤ) → held signed width m ≡ Some i → IsHeld signed width m i
held_is signed width m i e = by_tests (int_lt (greatest signed width) m) (int_lt m (least signed width)) refl refl e
  where
    by_tests : (b c : Bool) → int_lt (greatest signed width) m ≡ b → int_lt m (least signed width) ≡ c
        → (if b || c then None else Some m) ≡ Some i → IsHeld signed width m i
    by_tests true c f g h = cc
    by_tests false true f g h = cc
    by_tests false false f g h = let same : m ≡ i = cc in record { same = sym same; high = f; low = g }

plus_within : (signed : Bool) (n x : ℕ) → 1 ≤ n → int_lt (greatest signed (8 * n)) (pos x) ≡ false → x < 256 ^ n
plus_within true n x some h = let half = half_below n some in omega (arith, ints, h, half)
plus_within false n x some h =
    let power = bits_power n in
    let one : 0 < 256 ^ n = (let half = half_below n some in omega (arith, half)) in
    omega (arith, ints, h, power, one)

minus_within : (signed : Bool) (n y : ℕ) → 1 ≤ n → int_lt (negsuc y) (least signed (8 * n)) ≡ false → suc y < 256 ^ n
minus_within true n y some h = let half = half_below n some in omega (arith, ints, h, half)
minus_within false n y some h = absurd cc

-- ---- with its sign

pub plus_holds : (n A p R z : ℕ) → 1 ≤ n → IsLow (256 ^ n) R (A / p) → z ≡ R → HoldsExact n (trunc (pos A) p) z
plus_holds n A p R z some low same signed i h =
    let k = held_is signed (8 * n) (pos (A / p)) i h in
    let l = plus_within signed n (A / p) some k.high in
    subst (λ j. z ≡ in_bytes n j) (sym k.same) (same ∙ only_low (256 ^ n) R (A / p) low l)

minus_by : (n Q R z t : ℕ) → 1 ≤ n → IsLow (256 ^ n) R Q → z < 256 ^ n → t ≤ 1 → z + R ≡ t * 256 ^ n → HoldsExact n (neg_ℤ (pos Q)) z
minus_by n zero R z t some low l b e signed i h =
    let k = held_is signed (8 * n) (pos 0) i h in
    let is = low.is in
    let none : R ≡ 0 = omega (arith, is) in
    let one : 0 < 256 ^ n = omega (arith, l) in
    subst (λ j. z ≡ in_bytes n j) (sym k.same) (by_bit t b e none)
  where
    by_bit : (t : ℕ) → t ≤ 1 → z + R ≡ t * 256 ^ n → R ≡ 0 → z ≡ 0
    by_bit zero b e none = omega (arith, e)
    by_bit (suc zero) b e none = absurd (omega (arith, e, l, none))
    by_bit (suc (suc t)) b e none = absurd (omega (arith, b))
minus_by n (suc y) R z t some low l b e signed i h =
    let k = held_is signed (8 * n) (negsuc y) i h in
    let inside = minus_within signed n y some k.low in
    let all = only_low (256 ^ n) R (suc y) low inside in
    subst (λ j. z ≡ in_bytes n j) (sym k.same) (by_bit t b e all inside)
  where
    by_bit : (t : ℕ) → t ≤ 1 → z + R ≡ t * 256 ^ n → R ≡ suc y → suc y < 256 ^ n → z ≡ 256 ^ n - (y + 1)
    by_bit zero b e all inside = absurd (omega (arith, e, all))
    by_bit (suc zero) b e all inside = omega (arith, e, all, inside)
    by_bit (suc (suc t)) b e all inside = absurd (omega (arith, b))

pub minus_holds : (n M p R z t : ℕ) → 1 ≤ n → 1 ≤ M → IsLow (256 ^ n) R (M / p) → z < 256 ^ n → t ≤ 1 → z + R ≡ t * 256 ^ n
    → HoldsExact n (trunc (negsuc (M - 1)) p) z
minus_holds n M p R z t some one low l b e =
    let up : suc (M - 1) ≡ M = omega arith in
    let is : trunc (negsuc (M - 1)) p ≡ neg_ℤ (pos (M / p)) = ap (λ (x : ℕ). neg_ℤ (pos (x / p))) up in
    subst (λ x. HoldsExact n x z) (sym is) (minus_by n (M / p) R z t some low l b e)

-- The scaled operands: how large they are, and what their sum stands for.
use Rattle.std.proofs.Common.{◌≡◌, ℕ, suc, ◌+◌, ◌-◌, ◌*◌, ◌/◌, ◌^◌, ◌<◌, ◌≤◌, max, ⊎_elim, Bool, true, false, refl, ap, ◌∙◌}
use Rattle.std.proofs.Common.{subst, arith, ℤ, pos, ◌+ℤ◌, ◌-ℤ◌, ◌*ℤ◌, unsigned_abs}
use Rattle.std.proofs.lemmas.Bool.{cases_lt}
use Rattle.std.proofs.lemmas.Int.{ints, unsigned_abs-mul}
use Rattle.std.proofs.lemmas.Nat.{mul-le, pow_pos, pow-add}
use Rattle.std.proofs.Math.Nat.{pow-le-pow_right}
use native.Mathlib.Nat.{pow-suc}
use Rattle.ec_fx.specs.declared.formats.Format.{Format}
use Rattle.ec_fx.specs.declared.numbers.Mode.{Mode}
use Rattle.ec_fx.specs.Results.{fit}
use Rattle.ec_fx.specs.Rounding.{trunc, rounded, in_units}
use Rattle.ec_fx.proofs.Scaling.{sum_aligned, difference_aligned}
use Rattle.ec_fxcode.specs.ClampLaws.{HoldsResult}
use Rattle.ec_fxcode.proofs.Clamped.{bits_power}
use Rattle.ec_fxcode.proofs.Fits.{plus, minus}
use Rattle.ec_fxcode_shifts.specs.ShiftLaws.{number_in}
use Rattle.ec_fxcode_quotients.specs.QuotientLaws.{operand_in}
use Rattle.ec_fxcode_quotients.proofs.Signs.{scaled_is, fraction_is}
use Rattle.ec_fxcode_sums.specs.Sums.{raised, surplus}
use Rattle.ec_fxcode_sums.specs.SumLaws.{sum_by}
use Rattle.ec_fxcode_sums.proofs.TwosComplement.{unsigned_abs-parts}

-- ---- sizes

pub number_small : (signed : Bool) (n x : ℕ) → x < 256 ^ n → unsigned_abs (number_in signed n x) < 256 ^ n
number_small false n x l = l
number_small true n x l =
    ⊎_elim
    (λ (low : 2 * x < 256 ^ n). let e = plus n x low in rw e l)
    (λ (high : 256 ^ n ≤ 2 * x). let e = minus n x high l in rw e (omega arith))
    (cases_lt (2 * x) (256 ^ n))

power_room : (n d t : ℕ) → n + (d + 7) / 8 ≤ t → 256 ^ n * 2 ^ d ≤ 256 ^ t
power_room n d t l =
    let b = (d + 7) / 8 in
    let e : 2 ^ d ≤ 2 ^ (8 * b) = pow-le-pow_right {n = 2} (omega arith) {i = d} {j = 8 * b} (omega arith) in
    let f : 2 ^ (8 * b) ≡ 256 ^ b = bits_power b in
    let g : 256 ^ n * 2 ^ d ≤ 256 ^ n * 256 ^ b = mul-le (256 ^ n) (2 ^ d) (256 ^ n) (256 ^ b) (omega arith) (omega (arith, e, f)) in
    let h : 256 ^ (n + b) ≡ 256 ^ n * 256 ^ b = pow-add 256 n b in
    let i : 256 ^ (n + b) ≤ 256 ^ t = pow-le-pow_right {n = 256} (omega arith) {i = n + b} {j = t} l in
    omega (arith, g, h, i)

pub scaled_small : (signed : Bool) (n x d t : ℕ) → x < 256 ^ n → n + (d + 7) / 8 ≤ t
    → unsigned_abs (number_in signed n x *ℤ pos (2 ^ d)) < 256 ^ t
scaled_small signed n x d t l room =
    let z = number_in signed n x in
    let s = number_small signed n x l in
    let p : 0 < 2 ^ d = pow_pos d in
    let m : suc (unsigned_abs z) * 2 ^ d ≤ 256 ^ n * 2 ^ d = mul-le (suc (unsigned_abs z)) (2 ^ d) (256 ^ n) (2 ^ d) s (omega arith) in
    let r = power_room n d t room in
    rw (unsigned_abs-mul z (pos (2 ^ d))) (omega (arith, m, r, p))

-- the sum or the difference of two numbers
abbrev pub added : (minus : Bool) → ℤ → ℤ → ℤ
added true x y = x -ℤ y
added false x y = x +ℤ y

added_parts : (minus : Bool) (x y : ℤ) (p : ℕ) → unsigned_abs x < p → unsigned_abs y < p → unsigned_abs (added minus x y) < 2 * p
added_parts true x y p l m = omega (arith, ints, unsigned_abs-parts x, unsigned_abs-parts y, unsigned_abs-parts (x -ℤ y), l, m)
added_parts false x y p l m = omega (arith, ints, unsigned_abs-parts x, unsigned_abs-parts y, unsigned_abs-parts (x +ℤ y), l, m)

-- one byte more is room enough for it and its sign
pub added_small : (minus : Bool) (x y : ℤ) (t : ℕ) → unsigned_abs x < 256 ^ t → unsigned_abs y < 256 ^ t
    → 2 * unsigned_abs (added minus x y) < 256 ^ suc (suc t)
added_small minus x y t l m =
    let h = added_parts minus x y (256 ^ t) l m in
    let e = pow-suc 256 (suc t) in
    let f = pow-suc 256 t in
    omega (arith, h, e, f)

-- ---- values

sum_rises : (x y : ℤ) (f g r : ℕ) → r ≤ max f g
    → trunc (x *ℤ pos (2 ^ (g - f)) +ℤ y *ℤ pos (2 ^ (f - g))) (2 ^ (max f g - r))
    ≡ rounded (in_units (x *ℤ pos (2 ^ g) +ℤ y *ℤ pos (2 ^ f)) (f + g) r)
sum_rises x y f g r l =
    let first : g - f ≡ max f g - f = omega arith in
    let second : f - g ≡ max f g - g = omega arith in
    ap (λ t. trunc (x *ℤ pos (2 ^ t) +ℤ y *ℤ pos (2 ^ (f - g))) (2 ^ (max f g - r))) first
    ∙ ap (λ t. trunc (x *ℤ pos (2 ^ (max f g - f)) +ℤ y *ℤ pos (2 ^ t)) (2 ^ (max f g - r))) second
    ∙ sum_aligned x y f g r (max f g) refl l

difference_rises : (x y : ℤ) (f g r : ℕ) → r ≤ max f g
    → trunc (x *ℤ pos (2 ^ (g - f)) -ℤ y *ℤ pos (2 ^ (f - g))) (2 ^ (max f g - r))
    ≡ rounded (in_units (x *ℤ pos (2 ^ g) -ℤ y *ℤ pos (2 ^ f)) (f + g) r)
difference_rises x y f g r l =
    let first : g - f ≡ max f g - f = omega arith in
    let second : f - g ≡ max f g - g = omega arith in
    ap (λ t. trunc (x *ℤ pos (2 ^ t) -ℤ y *ℤ pos (2 ^ (f - g))) (2 ^ (max f g - r))) first
    ∙ ap (λ t. trunc (x *ℤ pos (2 ^ (max f g - f)) -ℤ y *ℤ pos (2 ^ t)) (2 ^ (max f g - r))) second
    ∙ difference_aligned x y f g r (max f g) refl l

-- what the bytes of the result hold
pub holds_sum : (minus : Bool) (f g to : Format) (mode : Mode) (a b x y k Z : ℕ) → to.frac ≤ max f.frac g.frac
    → HoldsResult k (fit to mode (trunc
    (added minus (number_in f.signed a x *ℤ pos (2 ^ raised f g)) (number_in g.signed b y *ℤ pos (2 ^ raised g f)))
    (2 ^ surplus f g to))) Z
    → HoldsResult k (sum_by minus (operand_in f a x) (operand_in g b y) to mode) Z
holds_sum true f g to mode a b x y k Z l h =
    rw (scaled_is f a x, scaled_is g b y, fraction_is f a x, fraction_is g b y)
    (subst (λ z. HoldsResult k (fit to mode z) Z)
    (difference_rises (number_in f.signed a x) (number_in g.signed b y) f.frac g.frac to.frac l) h)
holds_sum false f g to mode a b x y k Z l h =
    rw (scaled_is f a x, scaled_is g b y, fraction_is f a x, fraction_is g b y)
    (subst (λ z. HoldsResult k (fit to mode z) Z) (sum_rises (number_in f.signed a x) (number_in g.signed b y) f.frac g.frac to.frac l) h)

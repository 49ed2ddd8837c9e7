-- A result that is rounded toward zero lies within one unit of the exact one.
use Rattle.std.proofs.Common.{◌≡◌, ℕ, suc, ◌+◌, ◌-◌, ◌*◌, ◌/◌, ◌%◌, ◌^◌, ◌<◌, Bool, true, false, add-zero, refl, if◌then◌else◌, ◌&&◌, ◌==◌}
use Rattle.std.proofs.Common.{lit<, sym, ◌∙◌, subst, ap, neg_ℤ, ◌+ℤ◌, arith, ℤ, pos, negsuc, ◌-ℤ◌, ◌*ℤ◌, ◌≤ℤ◌, unsigned_abs}
use Rattle.std.proofs.lemmas.Int.{ints}
use Rattle.std.proofs.lemmas.Nat.{pow_pos, mod_below, div-add-mod'}
use borrow.Author.Differences.{same_in, sum_is_lem, neg_is}
use Rattle.ec_fx.specs.declared.formats.Format.{Format}
use Rattle.ec_fx.specs.declared.numbers.Mode.{Mode}
use Rattle.ec_fx.specs.declared.numbers.Fx.{Fx}
use Rattle.ec_fx.specs.declared.numbers.Fx.TheVariants.{Got, Overflow}
use Rattle.ec_fx.proofs.Scaling.{scale_negated}
use Rattle.std.proofs.Math.Nat.{mul-div_right, one-le-pow}
use Rattle.ec_fx.specs.Constants.{exact_constant}
use Rattle.ec_fx.specs.Formats.{step_of, is_fract, IsFormat}
use Rattle.ec_fx.specs.Ranges.{least, greatest, IsWithin}
use Rattle.ec_fx.specs.Results.{clamped, fit, HasFormat, IsAccurate}
use Rattle.ec_fx.specs.Numbers.{IsFixed}
use Rattle.ec_fx.specs.Rounding.{trunc, rounded, Fraction}

pub unit_of_trunc : (p : ℤ) (q : ℕ) → 0 < q → unsigned_abs (trunc p q *ℤ pos q -ℤ p) < q
unit_of_trunc (pos n) q h = omega (arith, ints, div-add-mod' n q, mod_below n q h)
unit_of_trunc (negsuc n) q h =
    let m : ℕ = suc n / q * q in
    let e : neg_ℤ (pos m) +ℤ pos (suc n) ≡ pos (suc n % q) =
    same_in _ _ (omega (arith, sum_is_lem (neg_ℤ (pos m)) (pos (suc n)), neg_is (pos m), div-add-mod' (suc n) q)) in
    subst (λ (z : ℤ). unsigned_abs z < q) (sym (ap (λ (z : ℤ). z +ℤ pos (suc n)) (scale_negated (suc n / q) q) ∙ e)) (mod_below (suc n) q h)

pub fit_within : (to : Format) (mode : Mode) (n : ℤ) → IsWithin to.signed to.bits n → fit to mode n ≡ Got (record { format = to; n = n })
fit_within to mode n h = grind (arith, ints, h.low, h.high)

-- every result that was rounded and then tested for its range
pub fit_accurate : (exact : Fraction) (to : Format) (mode : Mode) → 0 < exact.denominator
    → IsAccurate exact to (fit to mode (rounded exact))
fit_accurate exact to mode h = record {
  unit = λ within. (
    record { format = to; n = rounded exact },
    fit_within to mode (rounded exact) within,
    refl,
    unit_of_trunc exact.numerator exact.denominator h,
  );
}

pub accurate_as : (exact : Fraction) (to : Format) (mode : Mode) (answer : Fx) → 0 < exact.denominator
    → answer ≡ fit to mode (rounded exact) → IsAccurate exact to answer
accurate_as exact to mode answer h e = subst (λ (r : Fx). IsAccurate exact to r) (sym e) (fit_accurate exact to mode h)

-- 1 is past the greatest number that has no bits before the point
past_end : (signed : Bool) (bits frac : ℕ) → bits ≡ frac + (if signed then 1 else 0) → IsWithin signed bits (pos (2 ^ frac)) → ⊥
past_end true bits frac e w =
    let same : bits - 1 ≡ frac = omega arith in
    omega (arith, ints, w.high, ap (λ (n : ℕ). 2 ^ n) same, pow_pos frac)
past_end false bits frac e w =
    let same : bits ≡ frac = e ∙ add-zero frac in
    omega (arith, ints, w.high, ap (λ (n : ℕ). 2 ^ n) same, pow_pos frac)

both_true : (a b : Bool) → (a && b) ≡ true → (a ≡ true) × (b ≡ true)
both_true true true e = (refl, refl)
both_true true false e = absurd (cc)
both_true false b e = absurd (cc)

-- a constant of value exactly 1 is out of the range of a `_Fract`
pub one_accurate : (digits places : ℕ) (to : Format) (answer : Fx) → (is_fract to && digits == 10 ^ places) ≡ true
    → IsAccurate (exact_constant digits places to) to answer
one_accurate digits places to answer e =
    let parts = both_true (is_fract to) (digits == 10 ^ places) e in
    let width : to.bits ≡ step_of to = grind (arith, parts) in
    let one : digits ≡ 10 ^ places = grind (arith, parts) in
    let value : rounded (exact_constant digits places to) ≡ pos (2 ^ to.frac) =
    ap pos (ap (λ (n : ℕ). n * 2 ^ to.frac / 10 ^ places) one ∙ mul-div_right (2 ^ to.frac) (one-le-pow places 10 (lit< tt))) in
    record { unit = λ within. absurd (past_end to.signed to.bits to.frac width (subst (IsWithin to.signed to.bits) value within)) }

-- ---- results are values of their format

ends_within : (signed : Bool) (bits : ℕ) → IsWithin signed bits (least signed bits) × IsWithin signed bits (greatest signed bits)
ends_within true bits =
    let ordered : least true bits ≤ℤ greatest true bits = omega (arith, ints, pow_pos (bits - 1)) in
    (record { low = omega (arith, ints); high = ordered }, record { low = ordered; high = omega (arith, ints) })
ends_within false bits =
    let ordered : least false bits ≤ℤ greatest false bits = omega (arith, ints) in
    (record { low = omega (arith, ints); high = ordered }, record { low = ordered; high = omega (arith, ints) })

pub least_fixed : (to : Format) → IsFormat to → IsFixed (record { format = to; n = least to.signed to.bits })
least_fixed to h = record { known = h; in_range = (ends_within to.signed to.bits).0 }

pub greatest_fixed : (to : Format) → IsFormat to → IsFixed (record { format = to; n = greatest to.signed to.bits })
greatest_fixed to h = record { known = h; in_range = (ends_within to.signed to.bits).1 }

-- what stands for a result past an end of the range
pub clamped_format : (to : Format) (mode : Mode) (end : ℤ) (answer : Fx) → IsFixed (record { format = to; n = end })
    → answer ≡ clamped to mode end → HasFormat to answer
clamped_format to mode end answer h e =
    let kept : HasFormat to (clamped to mode end) =
    elim mode.saturate as (λ b. HasFormat to (if b then Got (record { format = to; n = end }) else Overflow)) [
      | true ↦ (refl, h)
      | false ↦ tt
    ] in
    subst (HasFormat to) (sym e) kept

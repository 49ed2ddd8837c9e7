-- Sums, differences, products, quotients, shifts and negations (ISO/IEC TR 18037:2008, 4.1.6).
-- The operands are the numbers x with f and y with g fraction bits, and the result has r.
use Rattle.std.specs.Prelude.{◌≡◌, ℕ, ◌+◌, ◌-◌, ◌*◌, ◌^◌, Bool, true, false, if◌then◌else◌, ℤ, pos, neg_ℤ, ◌+ℤ◌, ◌-ℤ◌}
use Rattle.std.specs.Prelude.{◌*ℤ◌, ◌≤ℤ◌, int_lt, unsigned_abs}
use Rattle.std.specs.Ordering.{int_eq}
use Rattle.ec_fx.specs.declared.formats.Format.{Format}
use Rattle.ec_fx.specs.declared.numbers.Fixed.{Fixed}
use Rattle.ec_fx.specs.declared.numbers.Mode.{Mode}
use Rattle.ec_fx.specs.declared.numbers.Num.{Num}
use Rattle.ec_fx.specs.declared.numbers.Num.TheVariants.{Whole, Fixed as FixedNum}
use Rattle.ec_fx.specs.declared.numbers.Fx.{Fx}
use Rattle.ec_fx.specs.declared.numbers.Fx.TheVariants.{ZeroDivisor}
use Rattle.ec_fx.specs.Formats.{higher}
use Rattle.ec_fx.specs.Numbers.{scaled, fraction_bits}
use Rattle.ec_fx.specs.Ranges.{least, greatest}
use Rattle.ec_fx.specs.Results.{result_of}
use Rattle.ec_fx.specs.Rounding.{Fraction, in_units}

-- ---- the operands that an operation takes

-- one operand at least is fixed, and the result has its format; of two fixed operands, which are both signed or both
-- unsigned, the higher format
abbrev pub IsResultFormat : Num → Num → Format → Type 0
IsResultFormat (Whole _) (Whole _) to = ⊥
IsResultFormat (Whole _) (FixedNum y) to = to ≡ y.format
IsResultFormat (FixedNum x) (Whole _) to = to ≡ x.format
IsResultFormat (FixedNum x) (FixedNum y) to = (x.format.signed ≡ y.format.signed) × (to ≡ higher x.format y.format)

-- a whole number that a type of one byte holds, signed or unsigned
pub record IsWholeByte (n : ℤ) : Type 0 where
  pub low : least true 8 ≤ℤ n
  pub high : n ≤ℤ greatest false 8

-- an operand of one byte
abbrev pub IsOneByte : Num → Type 0
IsOneByte (Whole n) = IsWholeByte n
IsOneByte (FixedNum x) = x.format.bits ≡ 8

-- ---- exact results of numbers, in units of 2^-r

-- x / 2^f + y / 2^g = (x * 2^g + y * 2^f) / 2^(f + g)
abbrev pub exact_sum : ℤ → ℕ → ℤ → ℕ → ℕ → Fraction
exact_sum x f y g r = in_units (x *ℤ pos (2 ^ g) +ℤ y *ℤ pos (2 ^ f)) (f + g) r

abbrev pub exact_difference : ℤ → ℕ → ℤ → ℕ → ℕ → Fraction
exact_difference x f y g r = in_units (x *ℤ pos (2 ^ g) -ℤ y *ℤ pos (2 ^ f)) (f + g) r

-- x * y / 2^(f + g), where r is at most f + g
abbrev pub exact_product : ℤ → ℕ → ℤ → ℕ → ℕ → Fraction
exact_product x f y g r = record { numerator = x *ℤ y; denominator = 2 ^ (f + g - r) }

-- z, with its sign turned where y is negative
abbrev pub turned : ℤ → ℤ → ℤ
turned y z = if int_lt y (pos 0) then neg_ℤ z else z

-- (x / 2^f) / (y / 2^g) = x * 2^g / (y * 2^f), with both signs turned where y is negative
abbrev pub exact_quotient : ℤ → ℕ → ℤ → ℕ → ℕ → Fraction
exact_quotient x f y g r =
    record { numerator = turned y (x *ℤ pos (2 ^ (g + r))); denominator = unsigned_abs y * 2 ^ f }

-- x * 2^count to the left, x / 2^count to the right
abbrev pub exact_shift : ℤ → ℕ → Bool → Fraction
exact_shift x count true = record { numerator = x *ℤ pos (2 ^ count); denominator = 1 }
exact_shift x count false = record { numerator = x; denominator = 2 ^ count }

abbrev pub exact_negation : ℤ → Fraction
exact_negation x = record { numerator = neg_ℤ x; denominator = 1 }

-- ---- the same of operands and a result format

abbrev pub sum_in : Num → Num → Format → Fraction
sum_in a b to = exact_sum (scaled a) (fraction_bits a) (scaled b) (fraction_bits b) to.frac

abbrev pub difference_in : Num → Num → Format → Fraction
difference_in a b to = exact_difference (scaled a) (fraction_bits a) (scaled b) (fraction_bits b) to.frac

abbrev pub product_in : Num → Num → Format → Fraction
product_in a b to = exact_product (scaled a) (fraction_bits a) (scaled b) (fraction_bits b) to.frac

abbrev pub quotient_in : Num → Num → Format → Fraction
quotient_in a b to = exact_quotient (scaled a) (fraction_bits a) (scaled b) (fraction_bits b) to.frac

-- ---- results

abbrev pub sum_of : Num → Num → Format → Mode → Fx
sum_of a b to mode = result_of (sum_in a b to) to mode

abbrev pub difference_of : Num → Num → Format → Mode → Fx
difference_of a b to mode = result_of (difference_in a b to) to mode

abbrev pub product_of : Num → Num → Format → Mode → Fx
product_of a b to mode = result_of (product_in a b to) to mode

abbrev pub quotient_of : Num → Num → Format → Mode → Fx
quotient_of a b to mode = if int_eq (scaled b) (pos 0) then ZeroDivisor else result_of (quotient_in a b to) to mode

abbrev pub shift_of : Fixed → ℕ → Bool → Mode → Fx
shift_of x count left mode = result_of (exact_shift x.n count left) x.format mode

abbrev pub negation_of : Fixed → Mode → Fx
negation_of x mode = result_of (exact_negation x.n) x.format mode

-- Conversions and comparisons of fixed-point values (ISO/IEC TR 18037:2008, 4.1.3 and 4.1.6).
-- The operand is x with f fraction bits.
use Rattle.std.specs.Prelude.{◌≡◌, ℕ, ◌^◌, Bool, ◌||◌, ◌⊎◌, if◌then◌else◌, ℤ, pos, ◌*ℤ◌, int_lt, Option, Some, None}
use Rattle.std.specs.declared.cmp.Ordering.{Ordering}
use Rattle.std.specs.Ordering.{int_cmp}
use Rattle.ec_fx.specs.declared.formats.Format.{Format}
use Rattle.ec_fx.specs.declared.numbers.Fixed.{Fixed}
use Rattle.ec_fx.specs.declared.numbers.Mode.{Mode}
use Rattle.ec_fx.specs.declared.numbers.Num.{Num}
use Rattle.ec_fx.specs.declared.numbers.Fx.{Fx}
use Rattle.ec_fx.specs.Ranges.{least, greatest}
use Rattle.ec_fx.specs.Numbers.{scaled, fraction_bits}
use Rattle.ec_fx.specs.Results.{result_of}
use Rattle.ec_fx.specs.Rounding.{Fraction, rounded, in_units}

-- x / 2^f in units of 2^-r
abbrev pub exact_conversion : ℤ → ℕ → ℕ → Fraction
exact_conversion x f r = in_units x f r

-- the same of an operand and a result format
abbrev pub conversion_in : Num → Format → Fraction
conversion_in a to = exact_conversion (scaled a) (fraction_bits a) to.frac

abbrev pub conversion_of : Num → Format → Mode → Fx
conversion_of a to mode = result_of (conversion_in a to) to mode

-- x / 2^f as a whole number
abbrev pub exact_whole : Fixed → Fraction
exact_whole x = record { numerator = x.n; denominator = 2 ^ x.format.frac }

-- the widths of the integer types
abbrev pub IsIntegerWidth : ℕ → Type 0
IsIntegerWidth bits = (bits ≡ 8) ⊎ ((bits ≡ 16) ⊎ (bits ≡ 32))

-- the number, if the type of so many bits holds it
abbrev pub held : Bool → ℕ → ℤ → Option ℤ
held signed bits n = if int_lt (greatest signed bits) n || int_lt n (least signed bits) then None else Some n

-- the value without what stands behind the point
abbrev pub integer_of : Fixed → Bool → ℕ → Option ℤ
integer_of x signed bits = held signed bits (rounded (exact_whole x))

-- the order of the exact values x / 2^f and y / 2^g
abbrev pub order_of : Num → Num → Ordering
order_of a b = int_cmp (scaled a *ℤ pos (2 ^ fraction_bits b)) (scaled b *ℤ pos (2 ^ fraction_bits a))

-- Exact results as fractions, and rounding toward zero (ISO/IEC TR 18037:2008, 4.1.3, leaves the direction open).
use Rattle.std.specs.Prelude.{ℕ, ◌^◌, ◌<◌, ℤ, pos, ◌-ℤ◌, ◌*ℤ◌, int_div, unsigned_abs}

-- the whole number with the sign of p and the greatest magnitude that is at most |p| / q
abbrev pub trunc : ℤ → ℕ → ℤ
trunc p q = int_div p (pos q)

-- an exact result in units of the result format: numerator / denominator
pub record Fraction : Type 0 where
  pub numerator : ℤ
  pub denominator : ℕ

-- z / 2^d in units of 2^-r
abbrev pub in_units : ℤ → ℕ → ℕ → Fraction
in_units z d r = record { numerator = z *ℤ pos (2 ^ r); denominator = 2 ^ d }

-- the exact result, rounded toward zero
abbrev pub rounded : Fraction → ℤ
rounded exact = trunc exact.numerator exact.denominator

-- n lies within one unit of the exact result p / q: |n * q - p| < q
abbrev pub IsWithinUnit : Fraction → ℤ → Type 0
IsWithinUnit exact n = unsigned_abs (n *ℤ pos exact.denominator -ℤ exact.numerator) < exact.denominator

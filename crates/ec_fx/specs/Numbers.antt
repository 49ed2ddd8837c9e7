-- The operands of fixed-point arithmetic: an operand with the number n and f fraction bits stands for n / 2^f (ISO/IEC
-- TR 18037:2008, 4.1.1).
use Rattle.std.specs.Prelude.{true, false, ℕ, ℤ, ◌≤ℤ◌}
use Rattle.ec_fx.specs.declared.numbers.Fixed.{Fixed}
use Rattle.ec_fx.specs.declared.numbers.Num.{Num}
use Rattle.ec_fx.specs.declared.numbers.Num.TheVariants.{Whole, Fixed as FixedNum}
use Rattle.ec_fx.specs.Formats.{IsFormat}
use Rattle.ec_fx.specs.Ranges.{least, greatest, IsWithin}

-- the number n of an operand
abbrev pub scaled : Num → ℤ
scaled (Whole n) = n
scaled (FixedNum x) = x.n

-- its f: a whole number has no fraction bits
abbrev pub fraction_bits : Num → ℕ
fraction_bits (Whole n) = 0
fraction_bits (FixedNum x) = x.format.frac

-- a number in the range of one of the twelve formats
pub record IsFixed (x : Fixed) : Type 0 where
  pub known : IsFormat x.format
  pub in_range : IsWithin x.format.signed x.format.bits x.n

-- a number that a 32-bit type holds, signed or unsigned
pub record IsWhole (n : ℤ) : Type 0 where
  pub low : least true 32 ≤ℤ n
  pub high : n ≤ℤ greatest false 32

abbrev pub IsNumber : Num → Type 0
IsNumber (Whole n) = IsWhole n
IsNumber (FixedNum x) = IsFixed x

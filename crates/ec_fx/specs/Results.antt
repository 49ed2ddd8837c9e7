-- Results: a value, or what stands for one that is out of range. The range is tested after rounding (ISO/IEC TR
-- 18037:2008, 4.1.3).
use Rattle.std.specs.Prelude.{◌≡◌, ⊤, if◌then◌else◌, ℤ, int_lt}
use Rattle.ec_fx.specs.declared.formats.Format.{Format}
use Rattle.ec_fx.specs.declared.numbers.Fixed.{Fixed}
use Rattle.ec_fx.specs.declared.numbers.Mode.{Mode}
use Rattle.ec_fx.specs.declared.numbers.Fx.{Fx}
use Rattle.ec_fx.specs.declared.numbers.Fx.TheVariants.{Got, Overflow, ZeroDivisor}
use Rattle.ec_fx.specs.Numbers.{IsFixed}
use Rattle.ec_fx.specs.Ranges.{least, greatest, IsWithin}
use Rattle.ec_fx.specs.Rounding.{Fraction, rounded, IsWithinUnit}

-- what stands for a result past this end of the range
abbrev pub clamped : Format → Mode → ℤ → Fx
clamped to mode end = if mode.saturate then Got (record { format = to; n = end }) else Overflow

-- the number as a value of the format; out of range the nearer end where the mode saturates, else Overflow
abbrev pub fit : Format → Mode → ℤ → Fx
fit to mode n =
    if int_lt (greatest to.signed to.bits) n then clamped to mode (greatest to.signed to.bits)
    else (if int_lt n (least to.signed to.bits) then clamped to mode (least to.signed to.bits)
    else Got (record { format = to; n = n }))

-- an exact result, rounded and then tested for its range
abbrev pub result_of : Fraction → Format → Mode → Fx
result_of exact to mode = fit to mode (rounded exact)

-- the value, if there is one, is of this format and in its range
abbrev pub HasFormat : Format → Fx → Type 0
HasFormat to (Got x) = (x.format ≡ to) × IsFixed x
HasFormat to Overflow = ⊤
HasFormat to ZeroDivisor = ⊤

-- a result whose rounded number is in range is not clamped: it is a value of the format within one unit of the exact
-- result
pub record IsAccurate (exact : Fraction) (to : Format) (answer : Fx) : Type 0 where
  pub unit : IsWithin to.signed to.bits (rounded exact)
      → (x : Fixed) × (answer ≡ Got x) × (x.format ≡ to) × IsWithinUnit exact x.n

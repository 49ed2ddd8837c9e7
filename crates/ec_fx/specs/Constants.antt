-- The values of fixed-point constants (ISO/IEC TR 18037:2008, 4.1.5).
use Rattle.std.specs.Prelude.{ℕ, ◌*◌, ◌^◌, ◌==◌, ◌&&◌, false, if◌then◌else◌, pos}
use Rattle.ec_fx.specs.declared.formats.Format.{Format}
use Rattle.ec_fx.specs.declared.numbers.Fx.{Fx}
use Rattle.ec_fx.specs.declared.numbers.Fx.TheVariants.{Got}
use Rattle.ec_fx.specs.Formats.{is_fract}
use Rattle.ec_fx.specs.Ranges.{greatest}
use Rattle.ec_fx.specs.Results.{result_of}
use Rattle.ec_fx.specs.Rounding.{Fraction}

-- digits / 10^places in units of the format
abbrev pub exact_constant : ℕ → ℕ → Format → Fraction
exact_constant digits places to = record { numerator = pos (digits * 2 ^ to.frac); denominator = 10 ^ places }

-- the constant's value is rounded toward zero and must then be in range; a `_Fract` constant of value exactly 1 is the
-- type's greatest value
abbrev pub value_of_constant : ℕ → ℕ → Format → Fx
value_of_constant digits places to =
    if is_fract to && digits == 10 ^ places then Got (record { format = to; n = greatest to.signed to.bits })
    else result_of (exact_constant digits places to) to (record { saturate = false })

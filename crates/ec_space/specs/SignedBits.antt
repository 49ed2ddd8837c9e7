-- Signed numbers and the unsigned ones that their bits make, in two's complement (ISO/IEC 9899:1999, 6.2.6.2).
use Rattle.std.proofs.Common.{ℕ, ◌^◌, ◌<◌, rules}
use Rattle.std.specs.Prelude.{ℤ, FitsSigned}
use Rattle.std.specs.Int.{Width, cast_unsigned, cast_signed}
use Rattle.std.proofs.lemmas.Int.{ints}
use mir.Val.{bits}
use mir.Facts.{Fits-of_z}

pub cast_unsigned_fits : (w : Width) (z : ℤ) → FitsSigned w z → cast_unsigned w z < 2 ^ bits w
cast_unsigned_fits w z h = (Fits-of_z h).fits

pub cast_signed_fits : (w : Width) (n : ℕ) → n < 2 ^ bits w → FitsSigned w (cast_signed w n)
cast_signed_fits w n h = search (rules, ints)

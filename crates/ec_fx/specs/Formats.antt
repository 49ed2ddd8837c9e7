-- The twelve formats of fixed-point values, and which of two is the higher (ISO/IEC TR 18037:2008, 4.1.1 and 4.1.4; the
-- widths are this project's profile).
use Rattle.std.specs.Prelude.{◌≡◌, ℕ, ◌+◌, ◌*◌, Bool, true, false, ◌⊎◌, ◌==◌, nat_lt, if◌then◌else◌}
use Rattle.ec_fx.specs.declared.formats.FxKind.{FxKind}
use Rattle.ec_fx.specs.declared.formats.FxKind.TheVariants.{ShortFract, Fract, LongFract, ShortAccum, Accum, LongAccum}
use Rattle.ec_fx.specs.declared.formats.FxKind.TheVariants.{UnsignedShortFract, UnsignedFract, UnsignedLongFract}
use Rattle.ec_fx.specs.declared.formats.FxKind.TheVariants.{UnsignedShortAccum, UnsignedAccum, UnsignedLongAccum}
use Rattle.ec_fx.specs.declared.formats.Format.{Format}

-- the format of each kind: s.7, s.15, s.31, s8.7, s16.15, s32.31 and their unsigned counterparts .8, .16, .32, 8.8,
-- 16.16, 32.32
abbrev pub format_of : FxKind → Format
format_of ShortFract = record { signed = true; bits = 8; frac = 7 }
format_of Fract = record { signed = true; bits = 16; frac = 15 }
format_of LongFract = record { signed = true; bits = 32; frac = 31 }
format_of ShortAccum = record { signed = true; bits = 16; frac = 7 }
format_of Accum = record { signed = true; bits = 32; frac = 15 }
format_of LongAccum = record { signed = true; bits = 64; frac = 31 }
format_of UnsignedShortFract = record { signed = false; bits = 8; frac = 8 }
format_of UnsignedFract = record { signed = false; bits = 16; frac = 16 }
format_of UnsignedLongFract = record { signed = false; bits = 32; frac = 32 }
format_of UnsignedShortAccum = record { signed = false; bits = 16; frac = 8 }
format_of UnsignedAccum = record { signed = false; bits = 32; frac = 16 }
format_of UnsignedLongAccum = record { signed = false; bits = 64; frac = 32 }

-- the bits of the sign and of the fraction: 8, 16 or 32 in the twelve formats
abbrev pub step_of : Format → ℕ
step_of f = f.frac + (if f.signed then 1 else 0)

-- all bits but a sign stand behind the point
abbrev pub is_fract : Format → Bool
is_fract f = f.bits == step_of f

-- one of the twelve formats: a `_Fract` has no bits before the point, and an `_Accum` has as many there as sign and
-- fraction have
pub record IsFormat (f : Format) : Type 0 where
  pub step : (step_of f ≡ 8) ⊎ ((step_of f ≡ 16) ⊎ (step_of f ≡ 32))
  pub width : (f.bits ≡ step_of f) ⊎ (f.bits ≡ 2 * step_of f)

-- the place among short _Fract, _Fract, long _Fract, short _Accum, _Accum, long _Accum: a `_Fract` is below each
-- `_Accum`, and a wider one is above
abbrev pub rank_of : Format → ℕ
rank_of f = if is_fract f then f.bits else (64 + f.bits)

-- the higher of two formats of one signedness
abbrev pub higher : Format → Format → Format
higher x y = if nat_lt (rank_of x) (rank_of y) then y else x

-- The formats of the kinds, for callers whose definitions speak of kinds.
use Rattle.std.proofs.Common.{refl, inl, inr}
use Rattle.ec_fx.specs.declared.formats.FxKind.{FxKind}
use Rattle.ec_fx.specs.declared.formats.FxKind.TheVariants.{ShortFract, Fract, LongFract, ShortAccum, Accum, LongAccum, UnsignedShortFract}
use Rattle.ec_fx.specs.declared.formats.FxKind.TheVariants.{UnsignedFract, UnsignedLongFract, UnsignedShortAccum, UnsignedAccum}
use Rattle.ec_fx.specs.declared.formats.FxKind.TheVariants.{UnsignedLongAccum}
use Rattle.ec_fx.specs.Formats.{format_of, IsFormat}

pub IsFormat-format_of : (k : FxKind) → IsFormat (format_of k)
IsFormat-format_of ShortFract = record { step = inl refl; width = inl refl }
IsFormat-format_of Fract = record { step = inr (inl refl); width = inl refl }
IsFormat-format_of LongFract = record { step = inr (inr refl); width = inl refl }
IsFormat-format_of ShortAccum = record { step = inl refl; width = inr refl }
IsFormat-format_of Accum = record { step = inr (inl refl); width = inr refl }
IsFormat-format_of LongAccum = record { step = inr (inr refl); width = inr refl }
IsFormat-format_of UnsignedShortFract = record { step = inl refl; width = inl refl }
IsFormat-format_of UnsignedFract = record { step = inr (inl refl); width = inl refl }
IsFormat-format_of UnsignedLongFract = record { step = inr (inr refl); width = inl refl }
IsFormat-format_of UnsignedShortAccum = record { step = inl refl; width = inr refl }
IsFormat-format_of UnsignedAccum = record { step = inr (inl refl); width = inr refl }
IsFormat-format_of UnsignedLongAccum = record { step = inr (inr refl); width = inr refl }

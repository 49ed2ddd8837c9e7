-- Arithmetic types, their promotions and the types of results (ISO/IEC 9899:1999, 6.3.1; ISO/IEC TR 18037:2008, 4.1.4).
-- The widths are this project's profile: int has 2 bytes and long has 4.
use Rattle.std.specs.Prelude.{nat_lt, true, ◌&&◌, ◌||◌, if◌then◌else◌, Option, Some, None, option_map, option_and_then}
use Rattle.ec_fx.specs.declared.formats.FxKind.{FxKind}
use Rattle.ec_fx.specs.declared.formats.FxKind.TheVariants.{ShortFract, Fract, LongFract, ShortAccum, Accum, LongAccum}
use Rattle.ec_fx.specs.declared.formats.FxKind.TheVariants.{UnsignedShortFract, UnsignedFract, UnsignedLongFract}
use Rattle.ec_fx.specs.declared.formats.FxKind.TheVariants.{UnsignedShortAccum, UnsignedAccum, UnsignedLongAccum}
use Rattle.ec_fx.specs.Formats.{format_of, rank_of}
use Rattle.ec_core.specs.declared.arithmetic_types.IntegerType.{IntegerType}
use Rattle.ec_core.specs.declared.arithmetic_types.FixedType.{FixedType}
use Rattle.ec_core.specs.declared.arithmetic_types.Arithmetic.{Arithmetic}
use Rattle.ec_core.specs.declared.arithmetic_types.Arithmetic.TheVariants.{Integer, Fixed}
use Rattle.ec_core.specs.Plain.{PlainType, void, integer, fixed, pointer, array, struct}

-- a type as an arithmetic one, and back
abbrev pub arithmetic_of : PlainType → Option Arithmetic
arithmetic_of void = None
arithmetic_of (integer signed bytes) = Some (Integer (record { signed = signed; bytes = bytes }))
arithmetic_of (fixed kind saturates) = Some (Fixed (record { kind = kind; sat = saturates }))
arithmetic_of (pointer space const to) = None
arithmetic_of (array of len) = None
arithmetic_of (struct index) = None

abbrev pub type_of : Arithmetic → PlainType
type_of (Integer t) = integer t.signed t.bytes
type_of (Fixed t) = fixed t.kind t.sat

-- the integer promotions: int holds all values of the types of one byte
abbrev pub promoted : IntegerType → IntegerType
promoted t = if nat_lt t.bytes 2 then record { signed = true; bytes = 2 } else t

-- of two promoted types the wider, which holds all values of the other, and of two of one width the unsigned one
abbrev pub wider_or_unsigned : IntegerType → IntegerType → IntegerType
wider_or_unsigned a b =
    if nat_lt a.bytes b.bytes then b
    else (if nat_lt b.bytes a.bytes then a else record { signed = a.signed && b.signed; bytes = a.bytes })

abbrev pub common_integer : IntegerType → IntegerType → IntegerType
common_integer a b = wider_or_unsigned (promoted a) (promoted b)

abbrev pub signed_kind : FxKind → FxKind
signed_kind ShortFract = ShortFract
signed_kind Fract = Fract
signed_kind LongFract = LongFract
signed_kind ShortAccum = ShortAccum
signed_kind Accum = Accum
signed_kind LongAccum = LongAccum
signed_kind UnsignedShortFract = ShortFract
signed_kind UnsignedFract = Fract
signed_kind UnsignedLongFract = LongFract
signed_kind UnsignedShortAccum = ShortAccum
signed_kind UnsignedAccum = Accum
signed_kind UnsignedLongAccum = LongAccum

-- the later of two kinds in the order of their formats: short _Fract, _Fract, long _Fract, short _Accum, _Accum, long
-- _Accum
abbrev pub higher_kind : FxKind → FxKind → FxKind
higher_kind a b = if nat_lt (rank_of (format_of a)) (rank_of (format_of b)) then b else a

-- an unsigned operand beside a signed one is first converted to its signed counterpart; the result saturates where an
-- operand does
abbrev pub common_fixed : FixedType → FixedType → FixedType
common_fixed a b = record {
  kind =
      if (format_of a.kind).signed || (format_of b.kind).signed
      then higher_kind (signed_kind a.kind) (signed_kind b.kind) else higher_kind a.kind b.kind;
  sat = a.sat || b.sat;
}

-- the type of a result: an integer beside a fixed-point operand is not converted, and the result has the other's type
abbrev pub common : Arithmetic → Arithmetic → Arithmetic
common (Integer a) (Integer b) = Integer (common_integer a b)
common (Integer a) (Fixed b) = Fixed b
common (Fixed a) (Integer b) = Fixed a
common (Fixed a) (Fixed b) = Fixed (common_fixed a b)

-- the type of the result of an operation on two types, if both are arithmetic
abbrev pub result_type_of : PlainType → PlainType → Option PlainType
result_type_of a b = option_and_then (λ x. option_map (λ y. type_of (common x y)) (arithmetic_of b)) (arithmetic_of a)

-- The types that type words name (ISO/IEC 9899:1999, 6.7.2; ISO/IEC TR 18037:2008, 4.1.1). The widths are this
-- project's profile: short and int have 2 bytes and long has 4.
use Rattle.std.specs.Prelude.{ℕ, Bool, true, false, not, ◌&&◌, ◌||◌, if◌then◌else◌, Option, Some, None}
use Rattle.ec_fx.specs.declared.formats.FxKind.{FxKind}
use Rattle.ec_fx.specs.declared.formats.FxKind.TheVariants.{ShortFract, Fract, LongFract, ShortAccum, Accum, LongAccum}
use Rattle.ec_fx.specs.declared.formats.FxKind.TheVariants.{UnsignedShortFract, UnsignedFract, UnsignedLongFract}
use Rattle.ec_fx.specs.declared.formats.FxKind.TheVariants.{UnsignedShortAccum, UnsignedAccum, UnsignedLongAccum}
use Rattle.ec_grammar.specs.declared.token.WordKind.{WordKind}
use Rattle.ec_grammar.specs.declared.token.WordKind.TheVariants as w
use Rattle.ec_core.specs.declared.arithmetic_types.Arithmetic.{Arithmetic}
use Rattle.ec_core.specs.declared.arithmetic_types.Arithmetic.TheVariants.{Integer, Fixed}
use Rattle.ec_core.specs.ArithmeticTypes.{type_of}
use Rattle.ec_core.specs.Plain.{PlainType, void, struct}
use Rattle.ec_check_names.specs.declared.words.Times.{Times}
use Rattle.ec_check_names.specs.declared.words.Times.TheVariants.{Never, Once, Often}
use Rattle.ec_check_names.specs.declared.words.Words.{Words}
use Rattle.ec_check_names.specs.declared.words.BaseType.{BaseType}
use Rattle.ec_check_names.specs.declared.words.BaseType.TheVariants.{Void, Number, Struct}

-- ---- how often a word stands

abbrev pub again : Times → Times
again Never = Once
again Once = Often
again Often = Often

-- how often two words stand together
abbrev pub together : Times → Times → Times
together Never b = b
together Once b = again b
together Often b = Often

abbrev pub is_never : Times → Bool
is_never Never = true
is_never Once = false
is_never Often = false

abbrev pub is_once : Times → Bool
is_once Never = false
is_once Once = true
is_once Often = false

abbrev pub is_at_most_once : Times → Bool
is_at_most_once Never = true
is_at_most_once Once = true
is_at_most_once Often = false

-- ---- type words that are counted

abbrev pub no_words : Words
no_words =
    record {
      character = Never;
      short = Never;
      int = Never;
      long = Never;
      signed = Never;
      unsigned = Never;
      fract = Never;
      accum = Never;
      sat = Never;
    }

-- the words with one more; other words change nothing
abbrev pub with_word : WordKind → Words → Words
with_word w.Char s = record s { character = again s.character }
with_word w.Short s = record s { short = again s.short }
with_word w.Int s = record s { int = again s.int }
with_word w.Long s = record s { long = again s.long }
with_word w.Signed s = record s { signed = again s.signed }
with_word w.Unsigned s = record s { unsigned = again s.unsigned }
with_word w.Fract s = record s { fract = again s.fract }
with_word w.Accum s = record s { accum = again s.accum }
with_word w.Sat s = record s { sat = again s.sat }
with_word word s = s

-- at most one length and at most one sign
abbrev pub has_one_form : Words → Bool
has_one_form s = is_at_most_once (together s.short s.long) && is_at_most_once (together s.signed s.unsigned)

abbrev pub fract_kind : (unsigned short long : Bool) → FxKind
fract_kind true short long = if short then UnsignedShortFract else (if long then UnsignedLongFract else UnsignedFract)
fract_kind false short long = if short then ShortFract else (if long then LongFract else Fract)

abbrev pub accum_kind : (unsigned short long : Bool) → FxKind
accum_kind true short long = if short then UnsignedShortAccum else (if long then UnsignedLongAccum else UnsignedAccum)
accum_kind false short long = if short then ShortAccum else (if long then LongAccum else Accum)

abbrev pub fixed_kind : Words → FxKind
fixed_kind s =
    if is_once s.fract then fract_kind (is_once s.unsigned) (is_once s.short) (is_once s.long)
    else accum_kind (is_once s.unsigned) (is_once s.short) (is_once s.long)

-- `_Fract` or `_Accum` with at most one length, at most one sign and at most one `_Sat`
abbrev pub fixed_type : Words → Option Arithmetic
fixed_type s =
    if is_once (together s.fract s.accum) && is_never s.character && is_never s.int && has_one_form s &&
    is_at_most_once s.sat
    then Some (Fixed (record { kind = fixed_kind s; sat = is_once s.sat }))
    else None

-- some word of an integer type other than `char`
abbrev pub has_integer_word : Words → Bool
has_integer_word s =
    not (is_never (together s.int (together s.short (together s.long (together s.signed s.unsigned)))))

-- `char`, or `int` with at most one length, where a length or a sign may stand in place of `int`; at most one sign
abbrev pub integer_type : Words → Option Arithmetic
integer_type s =
    if not (is_never s.sat) || not (has_one_form s) then None
    else (if is_once s.character then
    (if is_never s.int && is_never (together s.short s.long)
    then Some (Integer (record { signed = is_never s.unsigned; bytes = 1 }))
    else None)
    else (if is_never s.character && is_at_most_once s.int && has_integer_word s
    then Some (Integer (record { signed = is_never s.unsigned; bytes = if is_once s.long then 4 else 2 }))
    else None))

abbrev pub number_type : Words → Option Arithmetic
number_type s = if is_never s.fract && is_never s.accum then integer_type s else fixed_type s

-- none of the words stands
abbrev pub are_none : Words → Bool
are_none s =
    is_never (together s.character (together s.int s.sat)) && is_never (together s.short s.long) &&
    is_never (together s.signed s.unsigned) && is_never (together s.fract s.accum)

-- ---- types that specifiers name

abbrev pub integer_of : (signed : Bool) (bytes : ℕ) → BaseType
integer_of signed bytes = Number (Integer (record { signed = signed; bytes = bytes }))

-- a word that names a type alone: `void`, or a name of `<stdint.h>`
abbrev pub lone_type : WordKind → Option BaseType
lone_type w.Void = Some Void
lone_type w.Int8 = Some (integer_of true 1)
lone_type w.Uint8 = Some (integer_of false 1)
lone_type w.Int16 = Some (integer_of true 2)
lone_type w.Uint16 = Some (integer_of false 2)
lone_type w.Int32 = Some (integer_of true 4)
lone_type w.Uint32 = Some (integer_of false 4)
lone_type word = None

abbrev pub base_type : BaseType → PlainType
base_type Void = void
base_type (Number t) = type_of t
base_type (Struct index) = struct index

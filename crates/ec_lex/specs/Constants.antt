-- Integer constants (ISO/IEC 9899:1999, 6.4.4.1) and fixed-point constants (ISO/IEC TR 18037:2008, 6.4.4.2a; the bounds
-- on digits are this project's profile).
use Rattle.std.specs.Prelude.{ℕ, ◌+◌, ◌-◌, ◌*◌, ◌^◌, ◌<◌, ◌≤◌, ◌≡◌, ◌==◌, ◌||◌, nat_le, List, [], ◌∷◌, ◌++◌, length}
use Rattle.std.specs.Prelude.{Bool, true, false, Option, Some, None, if◌then◌else◌, codes}
use Rattle.std.specs.Cmp.Lexicographic.{pointwise}
use Rattle.std.specs.Char.{to_ascii_lowercase}
use Rattle.ec_fx.specs.declared.formats.FxKind.{FxKind}
use Rattle.ec_fx.specs.declared.formats.FxKind.TheVariants.{ShortFract, Fract, LongFract, ShortAccum, Accum, LongAccum}
use Rattle.ec_fx.specs.declared.formats.FxKind.TheVariants.{UnsignedShortFract, UnsignedFract, UnsignedLongFract}
use Rattle.ec_fx.specs.declared.formats.FxKind.TheVariants.{UnsignedShortAccum, UnsignedAccum, UnsignedLongAccum}
use Rattle.ec_fx.specs.declared.numbers.Fixed.{Fixed}
use Rattle.ec_fx.specs.declared.numbers.Fx.TheVariants.{Got}
use Rattle.ec_fx.specs.Formats.{format_of}
use Rattle.ec_fx.specs.Constants.{value_of_constant}
use Rattle.ec_grammar.specs.Tokens.{Lexeme, whole, fixed}
use Rattle.ec_lex.specs.declared.constants.Suffix.{Suffix}
use Rattle.ec_lex.specs.Bytes.{is_digit, is_octal, is_hexadecimal, digit_value}
use Rattle.ec_lex.specs.Pieces.{Pass}

-- the number of these digits behind a number n
abbrev pub value_from : ℕ → ℕ → List ℕ → ℕ
value_from base n [] = n
value_from base n (d ∷ ds) = value_from base (n * base + digit_value d) ds

-- what the first entry has whose bytes these are, each letter in either case
abbrev pub suffix_value : {K : Type 0} → List ℕ → List (List ℕ × K) → Option K
suffix_value w [] = None
suffix_value w (entry ∷ entries) =
    if pointwise (λ a b. to_ascii_lowercase a == b) w entry.0 then Some entry.1 else suffix_value w entries

abbrev pub integer_suffixes : List (List ℕ × Suffix)
integer_suffixes =
    (codes "", record { unsigned = false; long = false })
    ∷ (codes "u", record { unsigned = true; long = false })
    ∷ (codes "l", record { unsigned = false; long = true })
    ∷ (codes "ul", record { unsigned = true; long = true })
    ∷ (codes "lu", record { unsigned = true; long = true }) ∷ []

abbrev pub fixed_suffixes : List (List ℕ × FxKind)
fixed_suffixes =
    (codes "hr", ShortFract) ∷ (codes "r", Fract) ∷ (codes "lr", LongFract)
    ∷ (codes "hk", ShortAccum) ∷ (codes "k", Accum) ∷ (codes "lk", LongAccum)
    ∷ (codes "uhr", UnsignedShortFract) ∷ (codes "ur", UnsignedFract) ∷ (codes "ulr", UnsignedLongFract)
    ∷ (codes "uhk", UnsignedShortAccum) ∷ (codes "uk", UnsignedAccum) ∷ (codes "ulk", UnsignedLongAccum) ∷ []

-- an integer type: whether it is signed, and its bytes
pub record IntegerType : Type 0 where
  pub signed : Bool
  pub bytes : ℕ

abbrev pub int : IntegerType
int = record { signed = true; bytes = 2 }

abbrev pub unsigned_int : IntegerType
unsigned_int = record { signed = false; bytes = 2 }

abbrev pub long_int : IntegerType
long_int = record { signed = true; bytes = 4 }

abbrev pub unsigned_long : IntegerType
unsigned_long = record { signed = false; bytes = 4 }

-- the types that are tried, by whether the constant is decimal and by its suffix (the table of 6.4.4.1)
abbrev pub types_tried : Bool → Bool → Bool → List IntegerType
types_tried true false false = int ∷ long_int ∷ []
types_tried false false false = int ∷ unsigned_int ∷ long_int ∷ unsigned_long ∷ []
types_tried decimal true false = unsigned_int ∷ unsigned_long ∷ []
types_tried true false true = long_int ∷ []
types_tried false false true = long_int ∷ unsigned_long ∷ []
types_tried decimal true true = unsigned_long ∷ []

abbrev pub greatest_of : IntegerType → ℕ
greatest_of t = 2 ^ (8 * t.bytes - (if t.signed then 1 else 0)) - 1

-- the first of the types that holds the value
abbrev pub first_holding : ℕ → List IntegerType → Option IntegerType
first_holding n [] = None
first_holding n (t ∷ ts) = if nat_le n (greatest_of t) then Some t else first_holding n ts

-- what stands before the suffix of an integer constant, its base and its digits
pub data Integer : List ℕ → ℕ → List ℕ → Type 0 where
  decimal : {d : ℕ} {ds : List ℕ} → is_digit d ≡ true → (d == 48) ≡ false → Pass is_digit ds
      → Integer (d ∷ ds) 10 (d ∷ ds)
  octal : {ds : List ℕ} → Pass is_octal ds → Integer (48 ∷ ds) 8 ds
  hexadecimal : {x d : ℕ} {ds : List ℕ} → ((x == 120) || (x == 88)) ≡ true → is_hexadecimal d ≡ true
      → Pass is_hexadecimal ds → Integer (48 ∷ x ∷ d ∷ ds) 16 (d ∷ ds)

-- A run of bytes that is a constant, and its token. The point of a fixed constant has a digit on at least one side, and
-- it has at most 24 digits in all.
pub data IsConstant : List ℕ → Lexeme → Type 0 where
  integer : (prefix digits suffix : List ℕ) (base : ℕ) (s : Suffix) (t : IntegerType) → Integer prefix base digits
      → suffix_value suffix integer_suffixes ≡ Some s
      → first_holding (value_from base 0 digits) (types_tried (base == 10) s.unsigned s.long) ≡ Some t
      → IsConstant (prefix ++ suffix) (whole (value_from base 0 digits) t.signed t.bytes)
  fixed_point : (before after suffix : List ℕ) (kind : FxKind) (x : Fixed) → Pass is_digit before → Pass is_digit after
      → 0 < length before + length after → length before + length after ≤ 24
      → suffix_value suffix fixed_suffixes ≡ Some kind
      → value_of_constant (value_from 10 (value_from 10 0 before) after) (length after) (format_of kind) ≡ Got x
      → IsConstant (before ++ 46 ∷ (after ++ suffix)) (fixed kind x.n)

-- The type that the specifiers of a declaration name, in words (ISO/IEC 9899:1999, 6.7.2; ISO/IEC TR 18037:2008, 4.1.1): the type
-- specifiers among them are one of the sets of the standards, in any order, and other specifiers may stand between them. The widths
-- are this project's profile: char has 1 byte and is signed, short and int have 2, and long has 4.
use Rattle.std.specs.Prelude.{ℕ, ◌≡◌, Bool, true, false, if◌then◌else◌, Some, List, [], ◌∷◌, ◌++◌}
use Rattle.ec_fx.specs.declared.formats.FxKind.{FxKind}
use Rattle.ec_fx.specs.declared.formats.FxKind.TheVariants as format
use Rattle.ec_grammar.specs.declared.Spot.{Spot}
use Rattle.ec_grammar.specs.declared.token.WordKind.{WordKind}
use Rattle.ec_grammar.specs.declared.token.WordKind.TheVariants as w
use Rattle.ec_grammar.specs.Trees.{Spec, word_spec, struct_spec, Specs, specs, Identifier, identifier}
use Rattle.ec_core.specs.Plain.{PlainType, void, integer, fixed, struct}
use Rattle.ec_check_names.specs.Tables.{at_name}
use Rattle.ec_check_names.specs.Tags.{Tags}

-- ---- type specifiers

-- a word that is a type specifier; the names of `<stdint.h>` are such
abbrev pub is_type_word : WordKind → Bool
is_type_word w.Void = true
is_type_word w.Char = true
is_type_word w.Short = true
is_type_word w.Int = true
is_type_word w.Long = true
is_type_word w.Signed = true
is_type_word w.Unsigned = true
is_type_word w.Fract = true
is_type_word w.Accum = true
is_type_word w.Sat = true
is_type_word w.Int8 = true
is_type_word w.Uint8 = true
is_type_word w.Int16 = true
is_type_word w.Uint16 = true
is_type_word w.Int32 = true
is_type_word w.Uint32 = true
is_type_word word = false

abbrev pub types_from : List Spec → List Spec
types_from [] = []
types_from (word_spec spot word ∷ more) = if is_type_word word then word_spec spot word ∷ types_from more else types_from more
types_from (struct_spec spot tag ∷ more) = struct_spec spot tag ∷ types_from more

-- the type specifiers among specifiers, as they stand
abbrev pub type_specifiers : Specs → List Spec
type_specifiers (specs first more) = types_from (first ∷ more)

-- ---- sets of words, in any order

-- a word of a set, and those that are left beside it
pub data Pick : WordKind → List WordKind → List WordKind → Type 0 where
  the_first : {word : WordKind} {words : List WordKind} → Pick word (word ∷ words) words
  a_later : {word other : WordKind} {words left : List WordKind} → Pick word words left → Pick word (other ∷ words) (other ∷ left)

-- specifiers are the words of a set, each once, in any order
pub data AreWords : List WordKind → List Spec → Type 0 where
  no_more : AreWords [] []
  one_more : {spot : Spot} {word : WordKind} {set left : List WordKind} {more : List Spec} → Pick word set left → AreWords left more
      → AreWords set (word_spec spot word ∷ more)

-- ---- the sets

-- one sign or none, and whether it is that of a signed type
pub data SignWords : List WordKind → (signed : Bool) → Type 0 where
  no_sign : SignWords [] true
  signed : SignWords (w.Signed ∷ []) true
  unsigned : SignWords (w.Unsigned ∷ []) false

-- the integer types: whether a set's type is signed, and its bytes
pub data IntegerWords : List WordKind → (signed : Bool) → (bytes : ℕ) → Type 0 where
  char : {ss : List WordKind} {s : Bool} → SignWords ss s → IntegerWords (w.Char ∷ ss) s 1
  short : {ss : List WordKind} {s : Bool} → SignWords ss s → IntegerWords (w.Short ∷ ss) s 2
  short_int : {ss : List WordKind} {s : Bool} → SignWords ss s → IntegerWords (w.Short ∷ w.Int ∷ ss) s 2
  int : {ss : List WordKind} {s : Bool} → SignWords ss s → IntegerWords (w.Int ∷ ss) s 2
  signed_alone : IntegerWords (w.Signed ∷ []) true 2
  unsigned_alone : IntegerWords (w.Unsigned ∷ []) false 2
  long : {ss : List WordKind} {s : Bool} → SignWords ss s → IntegerWords (w.Long ∷ ss) s 4
  long_int : {ss : List WordKind} {s : Bool} → SignWords ss s → IntegerWords (w.Long ∷ w.Int ∷ ss) s 4

-- the fixed-point types, by the words beside the sign
pub data FixedWords : List WordKind → (signed : Bool) → FxKind → Type 0 where
  short_fract : FixedWords (w.Short ∷ w.Fract ∷ []) true format.ShortFract
  fract : FixedWords (w.Fract ∷ []) true format.Fract
  long_fract : FixedWords (w.Long ∷ w.Fract ∷ []) true format.LongFract
  short_accum : FixedWords (w.Short ∷ w.Accum ∷ []) true format.ShortAccum
  accum : FixedWords (w.Accum ∷ []) true format.Accum
  long_accum : FixedWords (w.Long ∷ w.Accum ∷ []) true format.LongAccum
  unsigned_short_fract : FixedWords (w.Short ∷ w.Fract ∷ []) false format.UnsignedShortFract
  unsigned_fract : FixedWords (w.Fract ∷ []) false format.UnsignedFract
  unsigned_long_fract : FixedWords (w.Long ∷ w.Fract ∷ []) false format.UnsignedLongFract
  unsigned_short_accum : FixedWords (w.Short ∷ w.Accum ∷ []) false format.UnsignedShortAccum
  unsigned_accum : FixedWords (w.Accum ∷ []) false format.UnsignedAccum
  unsigned_long_accum : FixedWords (w.Long ∷ w.Accum ∷ []) false format.UnsignedLongAccum

-- `_Sat` or not, and whether it saturates
pub data SatWords : List WordKind → (saturates : Bool) → Type 0 where
  no_sat : SatWords [] false
  sat : SatWords (w.Sat ∷ []) true

-- a set of words, and the type that it is for
pub data IsSet : List WordKind → PlainType → Type 0 where
  nothing : IsSet (w.Void ∷ []) void
  an_integer : {set : List WordKind} {s : Bool} {bytes : ℕ} → IntegerWords set s bytes → IsSet set (integer s bytes)
  a_fixed : {fs ss ts : List WordKind} {s saturates : Bool} {kind : FxKind} → FixedWords fs s kind → SignWords ss s
      → SatWords ts saturates → IsSet (fs ++ ss ++ ts) (fixed kind saturates)
  int8_t : IsSet (w.Int8 ∷ []) (integer true 1)
  uint8_t : IsSet (w.Uint8 ∷ []) (integer false 1)
  int16_t : IsSet (w.Int16 ∷ []) (integer true 2)
  uint16_t : IsSet (w.Uint16 ∷ []) (integer false 2)
  int32_t : IsSet (w.Int32 ∷ []) (integer true 4)
  uint32_t : IsSet (w.Uint32 ∷ []) (integer false 4)

-- ---- what specifiers name

-- specifiers name a type: they have the words of one of the sets, or one struct alone, whatever its tag stands for
pub data NameType (ss : Specs) : Type 0 where
  words_name : {set : List WordKind} {ty : PlainType} → IsSet set ty → AreWords set (type_specifiers ss) → NameType ss
  struct_names : {spot : Spot} {tag : Identifier} → type_specifiers ss ≡ struct_spec spot tag ∷ [] → NameType ss

-- specifiers name the type, where these tags are known
pub data Name (tags : Tags) (ss : Specs) : PlainType → Type 0 where
  by_words : {set : List WordKind} {ty : PlainType} → IsSet set ty → AreWords set (type_specifiers ss) → Name tags ss ty
  by_struct : {spot at : Spot} {tag : List ℕ} {index : ℕ} → type_specifiers ss ≡ struct_spec spot (identifier at tag) ∷ []
      → at_name tag tags ≡ Some (Some index) → Name tags ss (struct index)

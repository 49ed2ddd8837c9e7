-- The sets of words for numbers are those that the walk takes for a number.
use Rattle.std.proofs.Common.{◌≡◌, ℕ, Bool, true, false, ◌&&◌, not, List, ◌++◌, refl, subst}
use Rattle.std.specs.Prelude.{if◌then◌else◌, Some, None}
use Rattle.std.proofs.lemmas.Bool.{false≢true, true≢false}
use Rattle.ec_fx.specs.declared.formats.FxKind.{FxKind}
use Rattle.ec_grammar.specs.declared.token.WordKind.{WordKind}
use Rattle.ec_core.proofs.Sameness.{and_true}
use Rattle.ec_core.specs.declared.arithmetic_types.Arithmetic.{Arithmetic}
use Rattle.ec_core.specs.declared.arithmetic_types.Arithmetic.TheVariants.{Integer, Fixed}
use Rattle.ec_core.specs.ArithmeticTypes.{type_of}
use Rattle.ec_check_names.specs.declared.words.Times.{Times}
use Rattle.ec_check_names.specs.declared.words.Times.TheVariants.{Never, Once, Often}
use Rattle.ec_check_names.specs.declared.words.Words.{Words}
use Rattle.ec_check_names.specs.Words.{together, is_never, is_once, is_at_most_once, no_words, has_one_form, has_integer_word}
use Rattle.ec_check_names.specs.Words.{fract_kind, accum_kind, number_type}
use Rattle.ec_check_meanings.proofs.Options.{inside, nothing_there, given, unless}
use Rattle.ec_check_parts.specs.TypeWords.{SignWords, no_sign, signed, unsigned, SatWords, no_sat, sat, IsSet, an_integer, a_fixed}
use Rattle.ec_check_parts.specs.TypeWords.{IntegerWords, char, short, short_int, int, signed_alone, unsigned_alone, long, long_int}
use Rattle.ec_check_parts.specs.TypeWords.{FixedWords, short_fract, fract, long_fract, short_accum, accum, long_accum}
use Rattle.ec_check_parts.specs.TypeWords.{unsigned_short_fract, unsigned_fract, unsigned_long_fract}
use Rattle.ec_check_parts.specs.TypeWords.{unsigned_short_accum, unsigned_accum, unsigned_long_accum}
use Rattle.ec_check_parts.proofs.Orders.{are_parts, words_by, AreFew}

-- ---- a set is a number

-- what the walk takes a set for
abbrev IsNumber : List WordKind → Arithmetic → Type 0
IsNumber set a = (number_type (words_by no_words set) ≡ Some a) × (are_parts set ≡ true)

pub integer_counted : (set : List WordKind) (s : Bool) (bytes : ℕ) → IntegerWords set s bytes
    → IsNumber set (Integer (record { signed = s; bytes = bytes }))
integer_counted _ _ _ (char no_sign) = (refl, refl)
integer_counted _ _ _ (char signed) = (refl, refl)
integer_counted _ _ _ (char unsigned) = (refl, refl)
integer_counted _ _ _ (short no_sign) = (refl, refl)
integer_counted _ _ _ (short signed) = (refl, refl)
integer_counted _ _ _ (short unsigned) = (refl, refl)
integer_counted _ _ _ (short_int no_sign) = (refl, refl)
integer_counted _ _ _ (short_int signed) = (refl, refl)
integer_counted _ _ _ (short_int unsigned) = (refl, refl)
integer_counted _ _ _ (int no_sign) = (refl, refl)
integer_counted _ _ _ (int signed) = (refl, refl)
integer_counted _ _ _ (int unsigned) = (refl, refl)
integer_counted _ _ _ (long no_sign) = (refl, refl)
integer_counted _ _ _ (long signed) = (refl, refl)
integer_counted _ _ _ (long unsigned) = (refl, refl)
integer_counted _ _ _ (long_int no_sign) = (refl, refl)
integer_counted _ _ _ (long_int signed) = (refl, refl)
integer_counted _ _ _ (long_int unsigned) = (refl, refl)
integer_counted _ _ _ signed_alone = (refl, refl)
integer_counted _ _ _ unsigned_alone = (refl, refl)

pub fixed_counted : (fs ss ts : List WordKind) (s saturates : Bool) (kind : FxKind) → FixedWords fs s kind → SignWords ss s
    → SatWords ts saturates → IsNumber (fs ++ ss ++ ts) (Fixed (record { kind = kind; sat = saturates }))
fixed_counted _ _ _ _ _ _ short_fract no_sign no_sat = (refl, refl)
fixed_counted _ _ _ _ _ _ short_fract no_sign sat = (refl, refl)
fixed_counted _ _ _ _ _ _ short_fract signed no_sat = (refl, refl)
fixed_counted _ _ _ _ _ _ short_fract signed sat = (refl, refl)
fixed_counted _ _ _ _ _ _ fract no_sign no_sat = (refl, refl)
fixed_counted _ _ _ _ _ _ fract no_sign sat = (refl, refl)
fixed_counted _ _ _ _ _ _ fract signed no_sat = (refl, refl)
fixed_counted _ _ _ _ _ _ fract signed sat = (refl, refl)
fixed_counted _ _ _ _ _ _ long_fract no_sign no_sat = (refl, refl)
fixed_counted _ _ _ _ _ _ long_fract no_sign sat = (refl, refl)
fixed_counted _ _ _ _ _ _ long_fract signed no_sat = (refl, refl)
fixed_counted _ _ _ _ _ _ long_fract signed sat = (refl, refl)
fixed_counted _ _ _ _ _ _ short_accum no_sign no_sat = (refl, refl)
fixed_counted _ _ _ _ _ _ short_accum no_sign sat = (refl, refl)
fixed_counted _ _ _ _ _ _ short_accum signed no_sat = (refl, refl)
fixed_counted _ _ _ _ _ _ short_accum signed sat = (refl, refl)
fixed_counted _ _ _ _ _ _ accum no_sign no_sat = (refl, refl)
fixed_counted _ _ _ _ _ _ accum no_sign sat = (refl, refl)
fixed_counted _ _ _ _ _ _ accum signed no_sat = (refl, refl)
fixed_counted _ _ _ _ _ _ accum signed sat = (refl, refl)
fixed_counted _ _ _ _ _ _ long_accum no_sign no_sat = (refl, refl)
fixed_counted _ _ _ _ _ _ long_accum no_sign sat = (refl, refl)
fixed_counted _ _ _ _ _ _ long_accum signed no_sat = (refl, refl)
fixed_counted _ _ _ _ _ _ long_accum signed sat = (refl, refl)
fixed_counted _ _ _ _ _ _ unsigned_short_fract unsigned no_sat = (refl, refl)
fixed_counted _ _ _ _ _ _ unsigned_short_fract unsigned sat = (refl, refl)
fixed_counted _ _ _ _ _ _ unsigned_fract unsigned no_sat = (refl, refl)
fixed_counted _ _ _ _ _ _ unsigned_fract unsigned sat = (refl, refl)
fixed_counted _ _ _ _ _ _ unsigned_long_fract unsigned no_sat = (refl, refl)
fixed_counted _ _ _ _ _ _ unsigned_long_fract unsigned sat = (refl, refl)
fixed_counted _ _ _ _ _ _ unsigned_short_accum unsigned no_sat = (refl, refl)
fixed_counted _ _ _ _ _ _ unsigned_short_accum unsigned sat = (refl, refl)
fixed_counted _ _ _ _ _ _ unsigned_accum unsigned no_sat = (refl, refl)
fixed_counted _ _ _ _ _ _ unsigned_accum unsigned sat = (refl, refl)
fixed_counted _ _ _ _ _ _ unsigned_long_accum unsigned no_sat = (refl, refl)
fixed_counted _ _ _ _ _ _ unsigned_long_accum unsigned sat = (refl, refl)

-- ---- a number has a set

-- so often each word stands
abbrev tally : (character short int long signed unsigned fract accum sat : Times) → Words
tally c h i l s u f a t =
    record {
      character = c;
      short = h;
      int = i;
      long = l;
      signed = s;
      unsigned = u;
      fract = f;
      accum = a;
      sat = t;
    }

-- words that are counted so are those of a set for the number
pub data HasSet (s : Words) (a : Arithmetic) : Type 0 where
  a_set : {set : List WordKind} → IsSet set (type_of a) → s ≡ words_by no_words set → are_parts set ≡ true
      → AreFew (words_by no_words set) → HasSet s a

-- at most one of two words stands, and once
data OneOf : Times → Times → Type 0 where
  neither : OneOf Never Never
  the_left : OneOf Once Never
  the_right : OneOf Never Once

one_of : (a b : Times) → is_at_most_once (together a b) ≡ true → OneOf a b
one_of Never Never e = neither
one_of Never Once e = the_right
one_of Never Often e = absurd (false≢true e)
one_of Once Never e = the_left
one_of Once Once e = absurd (false≢true e)
one_of Once Often e = absurd (false≢true e)
one_of Often b e = absurd (false≢true e)

data AtMostOnce : Times → Type 0 where
  not_at_all : AtMostOnce Never
  just_once : AtMostOnce Once

at_most_once : (t : Times) → is_at_most_once t ≡ true → AtMostOnce t
at_most_once Never e = not_at_all
at_most_once Once e = just_once
at_most_once Often e = absurd (false≢true e)

abbrev integer : Bool → ℕ → Arithmetic
integer s bytes = Integer (record { signed = s; bytes = bytes })

-- `char` stands once
characters : (s u : Times) → OneOf s u → HasSet (tally Once Never Never Never s u Never Never Never) (integer (is_never u) 1)
characters _ _ neither = a_set (an_integer (char no_sign)) refl refl (refl, refl, refl, refl, refl, refl, refl, refl, refl)
characters _ _ the_left = a_set (an_integer (char signed)) refl refl (refl, refl, refl, refl, refl, refl, refl, refl, refl)
characters _ _ the_right = a_set (an_integer (char unsigned)) refl refl (refl, refl, refl, refl, refl, refl, refl, refl, refl)

-- `int` stands once
with_int : (h l s u : Times) → OneOf h l → OneOf s u
    → HasSet (tally Never h Once l s u Never Never Never) (integer (is_never u) (if is_once l then 4 else 2))
with_int _ _ _ _ neither neither = a_set (an_integer (int no_sign)) refl refl (refl, refl, refl, refl, refl, refl, refl, refl, refl)
with_int _ _ _ _ the_left neither = a_set (an_integer (short_int no_sign)) refl refl (refl, refl, refl, refl, refl, refl, refl, refl, refl)
with_int _ _ _ _ the_right neither = a_set (an_integer (long_int no_sign)) refl refl (refl, refl, refl, refl, refl, refl, refl, refl, refl)
with_int _ _ _ _ neither the_left = a_set (an_integer (int signed)) refl refl (refl, refl, refl, refl, refl, refl, refl, refl, refl)
with_int _ _ _ _ the_left the_left = a_set (an_integer (short_int signed)) refl refl (refl, refl, refl, refl, refl, refl, refl, refl, refl)
with_int _ _ _ _ the_right the_left = a_set (an_integer (long_int signed)) refl refl (refl, refl, refl, refl, refl, refl, refl, refl, refl)
with_int _ _ _ _ neither the_right = a_set (an_integer (int unsigned)) refl refl (refl, refl, refl, refl, refl, refl, refl, refl, refl)
with_int _ _ _ _ the_left the_right = a_set (an_integer (short_int unsigned)) refl refl (refl, refl, refl, refl, refl, refl, refl, refl, refl)
with_int _ _ _ _ the_right the_right = a_set (an_integer (long_int unsigned)) refl refl (refl, refl, refl, refl, refl, refl, refl, refl, refl)

-- `int` does not stand there, and some other word does
without_int : (h l s u : Times) → OneOf h l → OneOf s u → has_integer_word (tally Never h Never l s u Never Never Never) ≡ true
    → HasSet (tally Never h Never l s u Never Never Never) (integer (is_never u) (if is_once l then 4 else 2))
without_int _ _ _ _ neither neither e = absurd (false≢true e)
without_int _ _ _ _ the_left neither e = a_set (an_integer (short no_sign)) refl refl (refl, refl, refl, refl, refl, refl, refl, refl, refl)
without_int _ _ _ _ the_right neither e = a_set (an_integer (long no_sign)) refl refl (refl, refl, refl, refl, refl, refl, refl, refl, refl)
without_int _ _ _ _ neither the_left e = a_set (an_integer signed_alone) refl refl (refl, refl, refl, refl, refl, refl, refl, refl, refl)
without_int _ _ _ _ the_left the_left e = a_set (an_integer (short signed)) refl refl (refl, refl, refl, refl, refl, refl, refl, refl, refl)
without_int _ _ _ _ the_right the_left e = a_set (an_integer (long signed)) refl refl (refl, refl, refl, refl, refl, refl, refl, refl, refl)
without_int _ _ _ _ neither the_right e = a_set (an_integer unsigned_alone) refl refl (refl, refl, refl, refl, refl, refl, refl, refl, refl)
without_int _ _ _ _ the_left the_right e = a_set (an_integer (short unsigned)) refl refl (refl, refl, refl, refl, refl, refl, refl, refl, refl)
without_int _ _ _ _ the_right the_right e = a_set (an_integer (long unsigned)) refl refl (refl, refl, refl, refl, refl, refl, refl, refl, refl)

fracts : (h l s u t : Times) → OneOf h l → OneOf s u → AtMostOnce t
    → HasSet (tally Never h Never l s u Once Never t)
    (Fixed (record { kind = fract_kind (is_once u) (is_once h) (is_once l); sat = is_once t }))
fracts _ _ _ _ _ neither neither not_at_all = a_set (a_fixed fract no_sign no_sat) refl refl
    (refl, refl, refl, refl, refl, refl, refl, refl, refl)
fracts _ _ _ _ _ neither neither just_once = a_set (a_fixed fract no_sign sat) refl refl
    (refl, refl, refl, refl, refl, refl, refl, refl, refl)
fracts _ _ _ _ _ the_left neither not_at_all = a_set (a_fixed short_fract no_sign no_sat) refl refl
    (refl, refl, refl, refl, refl, refl, refl, refl, refl)
fracts _ _ _ _ _ the_left neither just_once = a_set (a_fixed short_fract no_sign sat) refl refl
    (refl, refl, refl, refl, refl, refl, refl, refl, refl)
fracts _ _ _ _ _ the_right neither not_at_all = a_set (a_fixed long_fract no_sign no_sat) refl refl
    (refl, refl, refl, refl, refl, refl, refl, refl, refl)
fracts _ _ _ _ _ the_right neither just_once = a_set (a_fixed long_fract no_sign sat) refl refl
    (refl, refl, refl, refl, refl, refl, refl, refl, refl)
fracts _ _ _ _ _ neither the_left not_at_all = a_set (a_fixed fract signed no_sat) refl refl
    (refl, refl, refl, refl, refl, refl, refl, refl, refl)
fracts _ _ _ _ _ neither the_left just_once = a_set (a_fixed fract signed sat) refl refl
    (refl, refl, refl, refl, refl, refl, refl, refl, refl)
fracts _ _ _ _ _ the_left the_left not_at_all = a_set (a_fixed short_fract signed no_sat) refl refl
    (refl, refl, refl, refl, refl, refl, refl, refl, refl)
fracts _ _ _ _ _ the_left the_left just_once = a_set (a_fixed short_fract signed sat) refl refl
    (refl, refl, refl, refl, refl, refl, refl, refl, refl)
fracts _ _ _ _ _ the_right the_left not_at_all = a_set (a_fixed long_fract signed no_sat) refl refl
    (refl, refl, refl, refl, refl, refl, refl, refl, refl)
fracts _ _ _ _ _ the_right the_left just_once = a_set (a_fixed long_fract signed sat) refl refl
    (refl, refl, refl, refl, refl, refl, refl, refl, refl)
fracts _ _ _ _ _ neither the_right not_at_all = a_set (a_fixed unsigned_fract unsigned no_sat) refl refl
    (refl, refl, refl, refl, refl, refl, refl, refl, refl)
fracts _ _ _ _ _ neither the_right just_once = a_set (a_fixed unsigned_fract unsigned sat) refl refl
    (refl, refl, refl, refl, refl, refl, refl, refl, refl)
fracts _ _ _ _ _ the_left the_right not_at_all = a_set (a_fixed unsigned_short_fract unsigned no_sat) refl refl
    (refl, refl, refl, refl, refl, refl, refl, refl, refl)
fracts _ _ _ _ _ the_left the_right just_once = a_set (a_fixed unsigned_short_fract unsigned sat) refl refl
    (refl, refl, refl, refl, refl, refl, refl, refl, refl)
fracts _ _ _ _ _ the_right the_right not_at_all = a_set (a_fixed unsigned_long_fract unsigned no_sat) refl refl
    (refl, refl, refl, refl, refl, refl, refl, refl, refl)
fracts _ _ _ _ _ the_right the_right just_once = a_set (a_fixed unsigned_long_fract unsigned sat) refl refl
    (refl, refl, refl, refl, refl, refl, refl, refl, refl)

accums : (h l s u t : Times) → OneOf h l → OneOf s u → AtMostOnce t
    → HasSet (tally Never h Never l s u Never Once t)
    (Fixed (record { kind = accum_kind (is_once u) (is_once h) (is_once l); sat = is_once t }))
accums _ _ _ _ _ neither neither not_at_all = a_set (a_fixed accum no_sign no_sat) refl refl
    (refl, refl, refl, refl, refl, refl, refl, refl, refl)
accums _ _ _ _ _ neither neither just_once = a_set (a_fixed accum no_sign sat) refl refl
    (refl, refl, refl, refl, refl, refl, refl, refl, refl)
accums _ _ _ _ _ the_left neither not_at_all = a_set (a_fixed short_accum no_sign no_sat) refl refl
    (refl, refl, refl, refl, refl, refl, refl, refl, refl)
accums _ _ _ _ _ the_left neither just_once = a_set (a_fixed short_accum no_sign sat) refl refl
    (refl, refl, refl, refl, refl, refl, refl, refl, refl)
accums _ _ _ _ _ the_right neither not_at_all = a_set (a_fixed long_accum no_sign no_sat) refl refl
    (refl, refl, refl, refl, refl, refl, refl, refl, refl)
accums _ _ _ _ _ the_right neither just_once = a_set (a_fixed long_accum no_sign sat) refl refl
    (refl, refl, refl, refl, refl, refl, refl, refl, refl)
accums _ _ _ _ _ neither the_left not_at_all = a_set (a_fixed accum signed no_sat) refl refl
    (refl, refl, refl, refl, refl, refl, refl, refl, refl)
accums _ _ _ _ _ neither the_left just_once = a_set (a_fixed accum signed sat) refl refl
    (refl, refl, refl, refl, refl, refl, refl, refl, refl)
accums _ _ _ _ _ the_left the_left not_at_all = a_set (a_fixed short_accum signed no_sat) refl refl
    (refl, refl, refl, refl, refl, refl, refl, refl, refl)
accums _ _ _ _ _ the_left the_left just_once = a_set (a_fixed short_accum signed sat) refl refl
    (refl, refl, refl, refl, refl, refl, refl, refl, refl)
accums _ _ _ _ _ the_right the_left not_at_all = a_set (a_fixed long_accum signed no_sat) refl refl
    (refl, refl, refl, refl, refl, refl, refl, refl, refl)
accums _ _ _ _ _ the_right the_left just_once = a_set (a_fixed long_accum signed sat) refl refl
    (refl, refl, refl, refl, refl, refl, refl, refl, refl)
accums _ _ _ _ _ neither the_right not_at_all = a_set (a_fixed unsigned_accum unsigned no_sat) refl refl
    (refl, refl, refl, refl, refl, refl, refl, refl, refl)
accums _ _ _ _ _ neither the_right just_once = a_set (a_fixed unsigned_accum unsigned sat) refl refl
    (refl, refl, refl, refl, refl, refl, refl, refl, refl)
accums _ _ _ _ _ the_left the_right not_at_all = a_set (a_fixed unsigned_short_accum unsigned no_sat) refl refl
    (refl, refl, refl, refl, refl, refl, refl, refl, refl)
accums _ _ _ _ _ the_left the_right just_once = a_set (a_fixed unsigned_short_accum unsigned sat) refl refl
    (refl, refl, refl, refl, refl, refl, refl, refl, refl)
accums _ _ _ _ _ the_right the_right not_at_all = a_set (a_fixed unsigned_long_accum unsigned no_sat) refl refl
    (refl, refl, refl, refl, refl, refl, refl, refl, refl)
accums _ _ _ _ _ the_right the_right just_once = a_set (a_fixed unsigned_long_accum unsigned sat) refl refl
    (refl, refl, refl, refl, refl, refl, refl, refl, refl)

is_unset : (b : Bool) → not b ≡ false → b ≡ true
is_unset true e = refl
is_unset false e = absurd (true≢false e)

-- an integer, where at most one length and one sign stand
integers : (c h i l s u : Times) (x : Arithmetic) → OneOf h l → OneOf s u
    → (if is_once c then (if is_never i && is_never (together h l) then Some (integer (is_never u) 1) else None)
    else (if is_never c && is_at_most_once i && has_integer_word (tally c h i l s u Never Never Never)
    then Some (integer (is_never u) (if is_once l then 4 else 2)) else None)) ≡ Some x
    → HasSet (tally c h i l s u Never Never Never) x
integers Once _ Never _ s u x neither o e =
    subst (HasSet (tally Once Never Never Never s u Never Never Never)) (inside e) (characters s u o)
integers Once _ Never _ s u x the_left o e = absurd (nothing_there x e)
integers Once _ Never _ s u x the_right o e = absurd (nothing_there x e)
integers Once h Once l s u x m o e = absurd (nothing_there x e)
integers Once h Often l s u x m o e = absurd (nothing_there x e)
integers Never h Never l s u x m o e =
    let p =
    given (has_integer_word (tally Never h Never l s u Never Never Never)) (integer (is_never u) (if is_once l then 4 else 2)) x e in
    subst (HasSet (tally Never h Never l s u Never Never Never)) p.1 (without_int h l s u m o p.0)
integers Never h Once l s u x m o e =
    let p =
    given (has_integer_word (tally Never h Once l s u Never Never Never)) (integer (is_never u) (if is_once l then 4 else 2)) x e in
    subst (HasSet (tally Never h Once l s u Never Never Never)) p.1 (with_int h l s u m o)
integers Never h Often l s u x m o e = absurd (nothing_there x e)
integers Often h i l s u x m o e = absurd (nothing_there x e)

counted_number : (f a c h i l s u t : Times) (x : Arithmetic) → number_type (tally c h i l s u f a t) ≡ Some x
    → HasSet (tally c h i l s u f a t) x
counted_number Never Never c h i l s u Never x e =
    integers c h i l s u x (one_of h l forms.0) (one_of s u forms.1) p.1
  where
    p : (not (has_one_form (tally c h i l s u Never Never Never)) ≡ false)
        × ((if is_once c then (if is_never i && is_never (together h l) then Some (integer (is_never u) 1) else None)
        else (if is_never c && is_at_most_once i && has_integer_word (tally c h i l s u Never Never Never)
        then Some (integer (is_never u) (if is_once l then 4 else 2)) else None)) ≡ Some x)
    p = unless (not (has_one_form (tally c h i l s u Never Never Never))) _ x e

    forms : (is_at_most_once (together h l) ≡ true) × (is_at_most_once (together s u) ≡ true)
    forms = and_true (is_at_most_once (together h l)) (is_at_most_once (together s u)) (is_unset _ p.0)
counted_number Once Never Never h Never l s u t x e =
    subst (HasSet (tally Never h Never l s u Once Never t)) p.1
    (fracts h l s u t (one_of h l forms.0) (one_of s u forms.1) (at_most_once t both.1))
  where
    few : Bool
    few = is_at_most_once t

    kept : Arithmetic
    kept = Fixed (record { kind = fract_kind (is_once u) (is_once h) (is_once l); sat = is_once t })

    p : ((has_one_form (tally Never h Never l s u Once Never t) && few) ≡ true) × (kept ≡ x)
    p = given (has_one_form (tally Never h Never l s u Once Never t) && few) kept x e

    both : (has_one_form (tally Never h Never l s u Once Never t) ≡ true) × (few ≡ true)
    both = and_true (has_one_form (tally Never h Never l s u Once Never t)) few p.0

    forms : (is_at_most_once (together h l) ≡ true) × (is_at_most_once (together s u) ≡ true)
    forms = and_true (is_at_most_once (together h l)) (is_at_most_once (together s u)) both.0
counted_number Never Once Never h Never l s u t x e =
    subst (HasSet (tally Never h Never l s u Never Once t)) p.1
    (accums h l s u t (one_of h l forms.0) (one_of s u forms.1) (at_most_once t both.1))
  where
    few : Bool
    few = is_at_most_once t

    kept : Arithmetic
    kept = Fixed (record { kind = accum_kind (is_once u) (is_once h) (is_once l); sat = is_once t })

    p : ((has_one_form (tally Never h Never l s u Never Once t) && few) ≡ true) × (kept ≡ x)
    p = given (has_one_form (tally Never h Never l s u Never Once t) && few) kept x e

    both : (has_one_form (tally Never h Never l s u Never Once t) ≡ true) × (few ≡ true)
    both = and_true (has_one_form (tally Never h Never l s u Never Once t)) few p.0

    forms : (is_at_most_once (together h l) ≡ true) × (is_at_most_once (together s u) ≡ true)
    forms = and_true (is_at_most_once (together h l)) (is_at_most_once (together s u)) both.0
counted_number f a c h i l s u t x e = absurd (nothing_there x e)

pub number_counted : (s : Words) (x : Arithmetic) → number_type s ≡ Some x → HasSet s x
number_counted s x e =
    counted_number s.fract s.accum s.character s.short s.int s.long s.signed s.unsigned s.sat x e

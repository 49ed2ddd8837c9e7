-- The type that specifiers name is the one that the walk finds.
use Rattle.std.proofs.Common.{◌≡◌, ◌∙◌, ℕ, zero, suc, Bool, true, false, ◌&&◌, List, [], ◌∷◌, refl, sym, ap, subst, arith}
use Rattle.std.specs.Prelude.{◌↔◌, if◌then◌else◌, is_some, option_map, Option, Some, None}
use Rattle.std.proofs.lemmas.Bool.{false≢true}
use Rattle.ec_grammar.specs.declared.Spot.{Spot}
use Rattle.ec_grammar.specs.declared.token.WordKind.{WordKind}
use Rattle.ec_grammar.specs.declared.token.WordKind.TheVariants as w
use Rattle.ec_grammar.specs.Trees.{Spec, word_spec, struct_spec, Specs, specs, Identifier, identifier}
use Rattle.ec_core.proofs.Sameness.{and_true}
use Rattle.ec_core.specs.ArithmeticTypes.{type_of}
use Rattle.ec_core.specs.declared.arithmetic_types.Arithmetic.{Arithmetic}
use Rattle.ec_core.specs.declared.arithmetic_types.Arithmetic.TheVariants.{Integer, Fixed}
use Rattle.ec_core.specs.Plain.{PlainType}
use Rattle.ec_check_names.specs.declared.specifiers.Specified.{Specified}
use Rattle.ec_check_names.specs.declared.specifiers.TypeWords.{TypeWords}
use Rattle.ec_check_names.specs.declared.words.BaseType.{BaseType}
use Rattle.ec_check_names.specs.declared.words.BaseType.TheVariants.{Number}
use Rattle.ec_check_names.specs.declared.words.Times.{Times}
use Rattle.ec_check_names.specs.declared.words.Times.TheVariants.{Never, Once, Often}
use Rattle.ec_check_names.specs.declared.words.Words.{Words}
use Rattle.ec_check_names.specs.Specifiers.{specified, specified_from, with_spec, nothing_said, no_type_words, with_lone, with_type_word}
use Rattle.ec_check_names.specs.Specifiers.{with_word_as, struct_type, named_by, names_type, base_by, base_of}
use Rattle.ec_check_names.specs.Stars.{declared_by}
use Rattle.ec_check_names.specs.Tables.{at_name}
use Rattle.ec_check_names.specs.Tags.{Tags, state_by, tag_state}
use Rattle.ec_check_names.specs.Words.{is_never, together, with_word, no_words, number_type, are_none, lone_type, base_type}
use Rattle.ec_check_meanings.proofs.Options.{inside, nothing_there}
use Rattle.ec_check_parts.specs.TypeWords.{is_type_word, types_from, type_specifiers, Pick, the_first, a_later, AreWords, no_more, one_more}
use Rattle.ec_check_parts.specs.TypeWords.{IsSet, nothing, an_integer, a_fixed, int8_t, uint8_t, int16_t, uint16_t, int32_t, uint32_t}
use Rattle.ec_check_parts.specs.TypeWords.{NameType, words_name, struct_names, Name, by_words, by_struct}
use Rattle.ec_check_parts.proofs.Orders.{is_part, are_parts, kinds, AreOnlyParts, arranged, only_parts_of, words_by, in_any_order, plus}
use Rattle.ec_check_parts.proofs.Orders.{count, uncounted, same_number, counted_alike}
use Rattle.ec_check_parts.proofs.Sets.{integer_counted, fixed_counted, HasSet, a_set, number_counted}

-- ---- type specifiers alone

-- what the walk finds of them
abbrev types_by : Tags → TypeWords → List Spec → TypeWords
types_by tags t [] = t
types_by tags t (word_spec spot k ∷ zs) = types_by tags (with_type_word t spot.index k) zs
types_by tags t (struct_spec spot (identifier at n) ∷ zs) = types_by tags (with_lone t spot.index (struct_type (tag_state n tags))) zs

of_types : (tags : Tags) (s : Specified) (xs : List Spec) → (specified_from tags s xs).types ≡ types_by tags s.types (types_from xs)
of_types tags s [] = refl
of_types tags s (struct_spec spot (identifier at n) ∷ xs) = of_types tags (with_spec tags s (struct_spec spot (identifier at n))) xs
of_types tags s (word_spec spot k ∷ xs) = by k (of_types tags (with_spec tags s (word_spec spot k)) xs)
  where
    by : (k : WordKind)
        → (specified_from tags (with_spec tags s (word_spec spot k)) xs).types
        ≡ types_by tags (with_spec tags s (word_spec spot k)).types (types_from xs)
        → (specified_from tags s (word_spec spot k ∷ xs)).types ≡ types_by tags s.types (types_from (word_spec spot k ∷ xs))
    by w.Void e = e
    by k e = e

abbrev AreTypes : List Spec → Type 0
AreTypes [] = Unit {0}
AreTypes (word_spec spot k ∷ zs) = (is_type_word k ≡ true) × AreTypes zs
AreTypes (struct_spec spot tag ∷ zs) = AreTypes zs

types_only : (xs : List Spec) → AreTypes (types_from xs)
types_only [] = tt
types_only (struct_spec spot tag ∷ xs) = types_only xs
types_only (word_spec spot k ∷ xs) = by (is_type_word k) refl (types_only xs)
  where
    by : (b : Bool) → is_type_word k ≡ b → AreTypes (types_from xs)
        → AreTypes (if b then word_spec spot k ∷ types_from xs else types_from xs)
    by true q h = (q, h)
    by false q h = h

-- ---- words that name a type alone

abbrev more_by : Option BaseType → ℕ → ℕ
more_by None n = n
more_by (Some ty) n = suc n

-- how many specifiers do
abbrev lones : List Spec → ℕ
lones [] = zero
lones (word_spec spot k ∷ zs) = more_by (lone_type k) (lones zs)
lones (struct_spec spot tag ∷ zs) = suc (lones zs)

abbrev long : List Spec → ℕ
long [] = zero
long (z ∷ zs) = suc (long zs)

lones_of : (tags : Tags) (t : TypeWords) (zs : List Spec) → (types_by tags t zs).lones ≡ plus t.lones (lones zs)
lones_of tags t [] = refl
lones_of tags t (struct_spec spot (identifier at n) ∷ zs) = lones_of tags (with_lone t spot.index (struct_type (tag_state n tags))) zs
lones_of tags t (word_spec spot k ∷ zs) =
    by (lone_type k) (types_by tags (with_type_word t spot.index k) zs).lones (lones_of tags (with_type_word t spot.index k) zs)
  where
    by : (o : Option BaseType) (found : Times) → found ≡ plus (with_word_as o t spot.index k).lones (lones zs)
        → found ≡ plus t.lones (more_by o (lones zs))
    by None found e = e
    by (Some ty) found e = e

words_kept : (k : WordKind) (t : TypeWords) (at : ℕ) → (with_type_word t at k).words ≡ with_word k t.words
words_kept w.Void t at = refl
words_kept k t at = refl

words_of : (tags : Tags) (t : TypeWords) (zs : List Spec) → (types_by tags t zs).words ≡ words_by t.words (kinds zs)
words_of tags t [] = refl
words_of tags t (struct_spec spot (identifier at n) ∷ zs) = words_of tags (with_lone t spot.index (struct_type (tag_state n tags))) zs
words_of tags t (word_spec spot k ∷ zs) =
    words_of tags (with_type_word t spot.index k) zs ∙ ap (λ (s : Words). words_by s (kinds zs)) (words_kept k t spot.index)

no_suc : (n : ℕ) → suc n ≡ 0 → ⊥
no_suc n e = omega (arith, e)

only_parts : (zs : List Spec) → AreTypes zs → lones zs ≡ 0 → AreOnlyParts zs
only_parts [] p e = tt
only_parts (struct_spec spot tag ∷ zs) p e = absurd (no_suc (lones zs) e)
only_parts (word_spec spot k ∷ zs) p e = by k p.0 e (λ q. only_parts zs p.1 q)
  where
    by : (k : WordKind) → is_type_word k ≡ true → more_by (lone_type k) (lones zs) ≡ 0 → (lones zs ≡ 0 → AreOnlyParts zs)
        → (is_part k ≡ true) × AreOnlyParts zs
    by w.Char t e go = (refl, go e)
    by w.Short t e go = (refl, go e)
    by w.Int t e go = (refl, go e)
    by w.Long t e go = (refl, go e)
    by w.Signed t e go = (refl, go e)
    by w.Unsigned t e go = (refl, go e)
    by w.Fract t e go = (refl, go e)
    by w.Accum t e go = (refl, go e)
    by w.Sat t e go = (refl, go e)
    by w.Void t e go = absurd (no_suc (lones zs) e)
    by w.Int8 t e go = absurd (no_suc (lones zs) e)
    by w.Uint8 t e go = absurd (no_suc (lones zs) e)
    by w.Int16 t e go = absurd (no_suc (lones zs) e)
    by w.Uint16 t e go = absurd (no_suc (lones zs) e)
    by w.Int32 t e go = absurd (no_suc (lones zs) e)
    by w.Uint32 t e go = absurd (no_suc (lones zs) e)
    by k t e go = absurd (false≢true t)

parts_not_alone : (zs : List Spec) → AreOnlyParts zs → lones zs ≡ 0
parts_not_alone [] p = refl
parts_not_alone (struct_spec spot tag ∷ zs) p = absurd p
parts_not_alone (word_spec spot k ∷ zs) p = by k p.0 (parts_not_alone zs p.1)
  where
    by : (k : WordKind) → is_part k ≡ true → lones zs ≡ 0 → more_by (lone_type k) (lones zs) ≡ 0
    by w.Char t e = e
    by w.Short t e = e
    by w.Int t e = e
    by w.Long t e = e
    by w.Signed t e = e
    by w.Unsigned t e = e
    by w.Fract t e = e
    by w.Accum t e = e
    by w.Sat t e = e
    by k t e = absurd (false≢true t)

-- ---- no word that is counted

never_both : (a b : Times) → is_never (together a b) ≡ true → (a ≡ Never) × (b ≡ Never)
never_both Never Never e = (refl, refl)
never_both Never Once e = absurd (false≢true e)
never_both Never Often e = absurd (false≢true e)
never_both Once Never e = absurd (false≢true e)
never_both Once Once e = absurd (false≢true e)
never_both Once Often e = absurd (false≢true e)
never_both Often b e = absurd (false≢true e)

none_counted : (s : Words) → are_none s ≡ true → s ≡ no_words
none_counted s e =
    λ i.
    record {
      character = ints.0 i;
      short = lengths.0 i;
      int = sats.0 i;
      long = lengths.1 i;
      signed = signs.0 i;
      unsigned = signs.1 i;
      fract = kinds_of.0 i;
      accum = kinds_of.1 i;
      sat = sats.1 i;
    }
  where
    a : Bool
    a = is_never (together s.character (together s.int s.sat))

    b : Bool
    b = is_never (together s.short s.long)

    c : Bool
    c = is_never (together s.signed s.unsigned)

    d : Bool
    d = is_never (together s.fract s.accum)

    third : ((a && b && c) ≡ true) × (d ≡ true)
    third = and_true (a && b && c) d e

    second : ((a && b) ≡ true) × (c ≡ true)
    second = and_true (a && b) c third.0

    first : (a ≡ true) × (b ≡ true)
    first = and_true a b second.0

    ints : (s.character ≡ Never) × (together s.int s.sat ≡ Never)
    ints = never_both s.character (together s.int s.sat) first.0

    sats : (s.int ≡ Never) × (s.sat ≡ Never)
    sats = never_both s.int s.sat (ap is_never ints.1)

    lengths : (s.short ≡ Never) × (s.long ≡ Never)
    lengths = never_both s.short s.long first.1

    signs : (s.signed ≡ Never) × (s.unsigned ≡ Never)
    signs = never_both s.signed s.unsigned second.1

    kinds_of : (s.fract ≡ Never) × (s.accum ≡ Never)
    kinds_of = never_both s.fract s.accum third.1

all_alone : (zs : List Spec) → AreTypes zs → ((j : WordKind) → count j (kinds zs) ≡ 0) → long zs ≡ lones zs
all_alone [] p h = refl
all_alone (struct_spec spot tag ∷ zs) p h = ap (λ (n : ℕ). suc n) (all_alone zs p h)
all_alone (word_spec spot k ∷ zs) p h = by k p.0 h (λ g. all_alone zs p.1 g)
  where
    by : (k : WordKind) → is_type_word k ≡ true → ((j : WordKind) → count j (k ∷ kinds zs) ≡ 0)
        → (((j : WordKind) → count j (kinds zs) ≡ 0) → long zs ≡ lones zs) → suc (long zs) ≡ more_by (lone_type k) (lones zs)
    by w.Char t h go = absurd (no_suc (count w.Char (kinds zs)) (h w.Char))
    by w.Short t h go = absurd (no_suc (count w.Short (kinds zs)) (h w.Short))
    by w.Int t h go = absurd (no_suc (count w.Int (kinds zs)) (h w.Int))
    by w.Long t h go = absurd (no_suc (count w.Long (kinds zs)) (h w.Long))
    by w.Signed t h go = absurd (no_suc (count w.Signed (kinds zs)) (h w.Signed))
    by w.Unsigned t h go = absurd (no_suc (count w.Unsigned (kinds zs)) (h w.Unsigned))
    by w.Fract t h go = absurd (no_suc (count w.Fract (kinds zs)) (h w.Fract))
    by w.Accum t h go = absurd (no_suc (count w.Accum (kinds zs)) (h w.Accum))
    by w.Sat t h go = absurd (no_suc (count w.Sat (kinds zs)) (h w.Sat))
    by w.Void t h go = ap (λ (n : ℕ). suc n) (go (λ j. uncounted j w.Void (kinds zs) (h j)))
    by w.Int8 t h go = ap (λ (n : ℕ). suc n) (go (λ j. uncounted j w.Int8 (kinds zs) (h j)))
    by w.Uint8 t h go = ap (λ (n : ℕ). suc n) (go (λ j. uncounted j w.Uint8 (kinds zs) (h j)))
    by w.Int16 t h go = ap (λ (n : ℕ). suc n) (go (λ j. uncounted j w.Int16 (kinds zs) (h j)))
    by w.Uint16 t h go = ap (λ (n : ℕ). suc n) (go (λ j. uncounted j w.Uint16 (kinds zs) (h j)))
    by w.Int32 t h go = ap (λ (n : ℕ). suc n) (go (λ j. uncounted j w.Int32 (kinds zs) (h j)))
    by w.Uint32 t h go = ap (λ (n : ℕ). suc n) (go (λ j. uncounted j w.Uint32 (kinds zs) (h j)))
    by k t h go = absurd (false≢true t)

-- ---- what they name

-- what they are where they name a type
data Told (tags : Tags) (zs : List Spec) (t : TypeWords) : Type 0 where
  numbers : {set : List WordKind} {a : Arithmetic} → IsSet set (type_of a) → AreWords set zs → t.lones ≡ Never
      → number_type t.words ≡ Some a → Told tags zs t
  one_word : {spot : Spot} {k : WordKind} {ty : BaseType} → zs ≡ word_spec spot k ∷ [] → lone_type k ≡ Some ty → Told tags zs t
  one_struct : {spot at : Spot} {n : List ℕ} → zs ≡ struct_spec spot (identifier at n) ∷ [] → Told tags zs t

number_there : (tags : Tags) (zs : List Spec) (t : TypeWords) → AreTypes zs → t.lones ≡ plus Never (lones zs)
    → t.words ≡ words_by no_words (kinds zs) → t.lones ≡ Never → (a : Arithmetic) → number_type t.words ≡ Some a
    → HasSet t.words a → Told tags zs t
number_there tags zs t p l v q a r (a_set {set = set} s e parts few) =
    numbers s (arranged zs set (only_parts zs p none) parts (counted_alike (kinds zs) set (sym v ∙ e) few)) q r
  where
    none : lones zs ≡ 0
    none = same_number (lones zs) 0 (sym l ∙ q) refl

alone_there : (tags : Tags) (zs : List Spec) (t : TypeWords) → AreTypes zs → lones zs ≡ 1 → long zs ≡ lones zs → Told tags zs t
alone_there tags [] t p e l = absurd (no_suc 0 (sym e))
alone_there tags (struct_spec spot (identifier at n) ∷ []) t p e l = one_struct refl
alone_there tags (word_spec spot k ∷ []) t p e l = by (lone_type k) refl e
  where
    by : (o : Option BaseType) → lone_type k ≡ o → more_by o 0 ≡ 1 → Told tags (word_spec spot k ∷ []) t
    by None q e = absurd (no_suc 0 (sym e))
    by (Some ty) q e = one_word refl q
alone_there tags (x ∷ y ∷ zs) t p e l = absurd (omega (arith, l ∙ e))

told_by : (tags : Tags) (zs : List Spec) (t : TypeWords) → AreTypes zs → t.lones ≡ plus Never (lones zs)
    → t.words ≡ words_by no_words (kinds zs) → names_type t ≡ true → Told tags zs t
told_by tags zs t p l v e = by t.lones refl e
  where
    a_number : (o : Option Arithmetic) → number_type t.words ≡ o → t.lones ≡ Never → is_some o ≡ true → Told tags zs t
    a_number None r q e = absurd (false≢true e)
    a_number (Some a) r q e = number_there tags zs t p l v q a r (number_counted t.words a r)

    by : (times : Times) → t.lones ≡ times → named_by times t.words ≡ true → Told tags zs t
    by Never q e = a_number (number_type t.words) refl q e
    by Once q e =
        alone_there tags zs t p (same_number (lones zs) 1 (sym l ∙ q) refl)
        (all_alone zs p (counted_alike (kinds zs) [] (sym v ∙ none_counted t.words e)
        (refl, refl, refl, refl, refl, refl, refl, refl, refl)))
    by Often q e = absurd (false≢true e)

-- of specifiers
module _ (tags : Tags) (ss : Specs) where
  abbrev types_in : List Spec
  types_in = type_specifiers ss

  abbrev found : TypeWords
  found = types_by tags no_type_words types_in

  same : (specified tags ss).types ≡ found
  same = by ss
    where
      by : (ss : Specs) → (specified tags ss).types ≡ types_by tags no_type_words (type_specifiers ss)
      by (specs first more) = of_types tags nothing_said (first ∷ more)

  told : names_type found ≡ true → Told tags types_in found
  told = told_by tags types_in found (by ss) (lones_of tags no_type_words types_in) (words_of tags no_type_words types_in)
    where
      by : (ss : Specs) → AreTypes (type_specifiers ss)
      by (specs first more) = types_only (first ∷ more)

-- the type that they name, or none
abbrev base : Tags → List Spec → Option PlainType
base tags zs = option_map base_type (base_of (types_by tags no_type_words zs))

-- ---- from the sets to the walk

number_based : (t : TypeWords) (a : Arithmetic) → t.lones ≡ Never → number_type t.words ≡ Some a
    → option_map base_type (base_of t) ≡ Some (type_of a)
number_based t a q r =
    ap (λ (l : Times). option_map base_type (base_by l t.words t.lone)) q
    ∙ ap (λ (o : Option Arithmetic). option_map base_type (option_map Number o)) r

based : (tags : Tags) (set : List WordKind) (zs : List Spec) (a : Arithmetic)
    → (number_type (words_by no_words set) ≡ Some a) × (are_parts set ≡ true) → AreWords set zs → base tags zs ≡ Some (type_of a)
based tags set zs a (e, p) h =
    number_based (types_by tags no_type_words zs) a
    (lones_of tags no_type_words zs ∙ ap (plus Never) (parts_not_alone zs (only_parts_of set zs h p)))
    (ap number_type (words_of tags no_type_words zs ∙ in_any_order set zs h no_words) ∙ e)

nothing_left : (zs : List Spec) (set : List WordKind) → AreWords set zs → set ≡ [] → zs ≡ []
nothing_left _ _ no_more e = refl
nothing_left _ _ (one_more p h) e = absurd (no_pick p e)
  where
    no_pick : {k : WordKind} {set left : List WordKind} → Pick k set left → set ≡ [] → ⊥
    no_pick the_first e = cc
    no_pick (a_later p) e = cc

-- one word alone
only : (k : WordKind) (zs : List Spec) → AreWords (k ∷ []) zs → (spot : Spot) × (zs ≡ word_spec spot k ∷ [])
only k zs h = by zs (k ∷ []) h refl
  where
    picked : (k j : WordKind) (set left : List WordKind) → Pick j set left → set ≡ k ∷ [] → (j ≡ k) × (left ≡ [])
    picked k _ _ _ the_first e = (cc, cc)
    picked k _ _ _ (a_later p) e = absurd (none p cc)
      where
        none : {j : WordKind} {set left : List WordKind} → Pick j set left → set ≡ [] → ⊥
        none the_first e = cc
        none (a_later p) e = cc

    by : (zs : List Spec) (set : List WordKind) → AreWords set zs → set ≡ k ∷ [] → (spot : Spot) × (zs ≡ word_spec spot k ∷ [])
    by _ _ no_more e = absurd (no_word e)
      where
        no_word : ◌≡◌ {A = List WordKind} [] (k ∷ []) → ⊥
        no_word e = cc
    by _ _ (one_more {spot = spot} {word = j} {set = set} {left = left} {more = zs} p h) e =
        let q = picked k j set left p e in
        (spot, λ i. word_spec spot (q.0 i) ∷ nothing_left zs left h q.1 i)

alone_based : (tags : Tags) (k : WordKind) (ty : BaseType) (zs : List Spec) → lone_type k ≡ Some ty
    → (spot : Spot) × (zs ≡ word_spec spot k ∷ []) → base tags zs ≡ Some (base_type ty)
alone_based tags k ty zs l (spot, e) =
    ap (base tags) e
    ∙ ap (λ (o : Option BaseType). option_map base_type (base_of (with_word_as o no_type_words spot.index k))) l

set_based : (tags : Tags) (set : List WordKind) (ty : PlainType) (zs : List Spec) → IsSet set ty → AreWords set zs
    → base tags zs ≡ Some ty
set_based tags _ _ zs nothing h = alone_based tags w.Void _ zs refl (only w.Void zs h)
set_based tags _ _ zs (an_integer {set = set} {s = s} {bytes = bytes} i) h =
    based tags set zs (Integer (record { signed = s; bytes = bytes })) (integer_counted set s bytes i) h
set_based tags _ _ zs (a_fixed {fs = fs} {ss = ss} {ts = ts} {s = s} {saturates = saturates} {kind = kind} f g i) h =
    based tags _ zs (Fixed (record { kind = kind; sat = saturates })) (fixed_counted fs ss ts s saturates kind f g i) h
set_based tags _ _ zs int8_t h = alone_based tags w.Int8 _ zs refl (only w.Int8 zs h)
set_based tags _ _ zs uint8_t h = alone_based tags w.Uint8 _ zs refl (only w.Uint8 zs h)
set_based tags _ _ zs int16_t h = alone_based tags w.Int16 _ zs refl (only w.Int16 zs h)
set_based tags _ _ zs uint16_t h = alone_based tags w.Uint16 _ zs refl (only w.Uint16 zs h)
set_based tags _ _ zs int32_t h = alone_based tags w.Int32 _ zs refl (only w.Int32 zs h)
set_based tags _ _ zs uint32_t h = alone_based tags w.Uint32 _ zs refl (only w.Uint32 zs h)

-- what has a type is named
named : (t : TypeWords) (ty : PlainType) → option_map base_type (base_of t) ≡ Some ty → names_type t ≡ true
named t ty e = by t.lones e
  where
    a_number : (o : Option Arithmetic) → option_map base_type (option_map Number o) ≡ Some ty → is_some o ≡ true
    a_number None e = absurd (nothing_there ty e)
    a_number (Some a) e = refl

    one : (b : Bool) (o : Option BaseType) → option_map base_type (if b then o else None) ≡ Some ty → b ≡ true
    one true o e = refl
    one false o e = absurd (nothing_there ty e)

    by : (l : Times) → option_map base_type (base_by l t.words t.lone) ≡ Some ty → named_by l t.words ≡ true
    by Never e = a_number (number_type t.words) e
    by Once e = one (are_none t.words) _ e
    by Often e = absurd (nothing_there ty e)

-- ---- both ways

lone_set : (k : WordKind) (ty : BaseType) → lone_type k ≡ Some ty → IsSet (k ∷ []) (base_type ty)
lone_set w.Void ty e = subst (λ (b : BaseType). IsSet (w.Void ∷ []) (base_type b)) (inside e) nothing
lone_set w.Int8 ty e = subst (λ (b : BaseType). IsSet (w.Int8 ∷ []) (base_type b)) (inside e) int8_t
lone_set w.Uint8 ty e = subst (λ (b : BaseType). IsSet (w.Uint8 ∷ []) (base_type b)) (inside e) uint8_t
lone_set w.Int16 ty e = subst (λ (b : BaseType). IsSet (w.Int16 ∷ []) (base_type b)) (inside e) int16_t
lone_set w.Uint16 ty e = subst (λ (b : BaseType). IsSet (w.Uint16 ∷ []) (base_type b)) (inside e) uint16_t
lone_set w.Int32 ty e = subst (λ (b : BaseType). IsSet (w.Int32 ∷ []) (base_type b)) (inside e) int32_t
lone_set w.Uint32 ty e = subst (λ (b : BaseType). IsSet (w.Uint32 ∷ []) (base_type b)) (inside e) uint32_t
lone_set k ty e = absurd (nothing_there ty e)

lone_words : (k : WordKind) (spot : Spot) (zs : List Spec) → zs ≡ word_spec spot k ∷ [] → AreWords (k ∷ []) zs
lone_words k spot zs e = subst (AreWords (k ∷ [])) (sym e) (one_more the_first no_more)

pub type_told : (tags : Tags) (ss : Specs) → names_type (specified tags ss).types ≡ true ↔ NameType ss
type_told tags ss = (λ e. there (told tags ss (sym (ap names_type (same tags ss)) ∙ e)), λ n. ap names_type (same tags ss) ∙ back n)
  where
    there : Told tags (types_in tags ss) (found tags ss) → NameType ss
    there (numbers s h l r) = words_name s h
    there (one_word {spot = spot} {k = k} {ty = ty} e l) = words_name (lone_set k ty l) (lone_words k spot (types_in tags ss) e)
    there (one_struct e) = struct_names e

    of_struct : (spot : Spot) (tag : Identifier) → names_type (types_by tags no_type_words (struct_spec spot tag ∷ [])) ≡ true
    of_struct spot (identifier at n) = refl

    back : NameType ss → names_type (found tags ss) ≡ true
    back (words_name {set = set} {ty = ty} s h) = named (found tags ss) ty (set_based tags set ty (types_in tags ss) s h)
    back (struct_names {spot = spot} {tag = tag} e) =
        ap (λ (xs : List Spec). names_type (types_by tags no_type_words xs)) e ∙ of_struct spot tag

module _ (tags : Tags) (ss : Specs) where
  of_tag : (spot at : Spot) (n : List ℕ) (ty : PlainType) → types_in tags ss ≡ struct_spec spot (identifier at n) ∷ []
      → (o : Option (Option ℕ)) → at_name n tags ≡ o → option_map base_type (struct_type (state_by o)) ≡ Some ty → Name tags ss ty
  of_tag spot at n ty e None q h = absurd (nothing_there ty h)
  of_tag spot at n ty e (Some None) q h = absurd (nothing_there ty h)
  of_tag spot at n ty e (Some (Some i)) q h = subst (Name tags ss) (inside h) (by_struct e q)

  name_there : (ty : PlainType) → base tags (types_in tags ss) ≡ Some ty → Told tags (types_in tags ss) (found tags ss) → Name tags ss ty
  name_there ty e (numbers {a = a} s h l r) =
      subst (Name tags ss) (inside (sym (number_based (found tags ss) a l r) ∙ e)) (by_words s h)
  name_there ty e (one_word {spot = spot} {k = k} {ty = b} q l) =
      subst (Name tags ss) (inside (sym (alone_based tags k b (types_in tags ss) l (spot, q)) ∙ e))
      (by_words (lone_set k b l) (lone_words k spot (types_in tags ss) q))
  name_there ty e (one_struct {spot = spot} {at = at} {n = n} q) =
      of_tag spot at n ty q (at_name n tags) refl (sym (ap (base tags) q) ∙ e)

  name_back : (ty : PlainType) → Name tags ss ty → base tags (types_in tags ss) ≡ Some ty
  name_back _ (by_words {set = set} {ty = ty} s h) = set_based tags set ty (types_in tags ss) s h
  name_back _ (by_struct {tag = tag} q i) =
      ap (base tags) q ∙ ap (λ (o : Option (Option ℕ)). option_map base_type (struct_type (state_by o))) i

pub name_told : (tags : Tags) (ss : Specs) (ty : PlainType) → (declared_by (specified tags ss)).ty ≡ Some ty ↔ Name tags ss ty
name_told tags ss ty =
    let e = ap (λ (t : TypeWords). option_map base_type (base_of t)) (same tags ss) in (
      λ h. name_there tags ss ty (sym e ∙ h) (told tags ss (named (found tags ss) ty (sym e ∙ h))),
      λ n. e ∙ name_back tags ss ty n,
    )

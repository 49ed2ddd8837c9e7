-- The type that a type name says is that of a place, where it is not void.
use Rattle.std.proofs.Common.{◌≡◌, ◌≤◌, ◌/◌, ℕ, Bool, true, false, not, ◌&&◌, ◌||◌, List, [], ◌∷◌, refl, inl, inr, arith}
use Rattle.std.specs.Prelude.{if◌then◌else◌, ⊤, Option, Some, None, IfSome, option_map}
use Rattle.ec_fx.specs.declared.formats.FxKind.{FxKind}
use Rattle.ec_fx.specs.declared.formats.FxKind.TheVariants.{ShortFract, Fract, LongFract, ShortAccum, Accum, LongAccum, UnsignedShortFract}
use Rattle.ec_fx.specs.declared.formats.FxKind.TheVariants.{UnsignedFract, UnsignedLongFract, UnsignedShortAccum, UnsignedAccum}
use Rattle.ec_fx.specs.declared.formats.FxKind.TheVariants.{UnsignedLongAccum}
use Rattle.ec_fx.specs.Formats.{format_of}
use Rattle.ec_space.specs.declared.space.SpaceId.{SpaceId}
use Rattle.ec_space.specs.declared.space.SpaceId.TheVariants.{Flash, FarFlash, Data, Generic}
use Rattle.ec_space.specs.Spaces.{width}
use Rattle.ec_grammar.specs.declared.token.WordKind.{WordKind}
use Rattle.ec_grammar.specs.declared.token.WordKind.TheVariants as w
use Rattle.ec_grammar.specs.Trees as t
use Rattle.ec_core.specs.declared.arithmetic_types.Arithmetic.{Arithmetic}
use Rattle.ec_core.specs.declared.arithmetic_types.Arithmetic.TheVariants.{Integer, Fixed}
use Rattle.ec_core.specs.ArithmeticTypes.{type_of}
use Rattle.ec_core.specs.ArithmeticValues.{IsKnownType}
use Rattle.ec_core.specs.Layout.{IsIntegerSize}
use Rattle.ec_core.specs.Plain.{PlainType, pointer, struct, PlainStruct}
use Rattle.ec_check_names.specs.declared.qualifiers.Qualities.{Qualities}
use Rattle.ec_check_names.specs.declared.specifiers.Lone.{Lone}
use Rattle.ec_check_names.specs.declared.specifiers.Specified.{Specified}
use Rattle.ec_check_names.specs.declared.specifiers.TypeWords.{TypeWords}
use Rattle.ec_check_names.specs.declared.tags.TagState.{TagState}
use Rattle.ec_check_names.specs.declared.tags.TagState.TheVariants.{Undefined, Broken, Struct as StructTag}
use Rattle.ec_check_names.specs.declared.words.BaseType.{BaseType}
use Rattle.ec_check_names.specs.declared.words.BaseType.TheVariants.{Void, Number, Struct}
use Rattle.ec_check_names.specs.declared.words.Times.{Times}
use Rattle.ec_check_names.specs.declared.words.Times.TheVariants.{Never, Once, Often}
use Rattle.ec_check_names.specs.declared.words.Words.{Words}
use Rattle.ec_check_names.specs.Qualifiers.{qualities_of, space_in}
use Rattle.ec_check_names.specs.Specifiers.{with_word_as, struct_type, lone_of, base_by, at_void, with_spec, specified_from, specified}
use Rattle.ec_check_names.specs.Specifiers.{nothing_said}
use Rattle.ec_check_names.specs.Stars.{Declared, pointer_to, behind}
use Rattle.ec_check_names.specs.Tags.{Tags, tag_state}
use Rattle.ec_check_names.specs.Words.{integer_type, fixed_type, number_type, are_none, lone_type, base_type, is_once, is_never}
use Rattle.ec_check_names.specs.Words.{is_at_most_once, together, has_one_form, has_integer_word, fixed_kind}
use Rattle.ec_check_forms.specs.Validity.{IsPlaceType}
use Rattle.ec_check_expressions.specs.TypeNames.{said_type, void_said, meant_type}

-- what holds of both cases of a choice holds of it
pub if_both : {A : Type 0} → (P : A → Type 0) (b : Bool) (x y : A) → (b ≡ true → P x) → (b ≡ false → P y) → P (if b then x else y)
if_both P true x y h k = h refl
if_both P false x y h k = k refl

-- ---- numbers that words name

sized : (long : Bool) → IsIntegerSize (if long then 4 else 2)
sized true = inr (inr refl)
sized false = inr (inl refl)

integer_known : (s : Words) → IfSome (integer_type s) IsKnownType
integer_known s =
    if_both P (not (is_never s.sat) || not (has_one_form s)) None
    (if is_once s.character then one else more) (λ h. tt) (λ h.
    if_both P (is_once s.character) one more
    (λ h. if_both P (is_never s.int && is_never (together s.short s.long))
    (Some (Integer (record { signed = is_never s.unsigned; bytes = 1 }))) None (λ h. inl refl) (λ h. tt))
    (λ h. if_both P (is_never s.character && is_at_most_once s.int && has_integer_word s)
    (Some (Integer (record { signed = is_never s.unsigned; bytes = if is_once s.long then 4 else 2 }))) None
    (λ h. sized (is_once s.long)) (λ h. tt)))
  where
    P : Option Arithmetic → Type 0
    P o = IfSome o IsKnownType

    one : Option Arithmetic
    one = if is_never s.int && is_never (together s.short s.long)
        then Some (Integer (record { signed = is_never s.unsigned; bytes = 1 })) else None

    more : Option Arithmetic
    more = if is_never s.character && is_at_most_once s.int && has_integer_word s
        then Some (Integer (record { signed = is_never s.unsigned; bytes = if is_once s.long then 4 else 2 })) else None

fixed_known : (s : Words) → IfSome (fixed_type s) IsKnownType
fixed_known s =
    if_both (λ o. IfSome o IsKnownType)
    (is_once (together s.fract s.accum) && is_never s.character && is_never s.int && has_one_form s && is_at_most_once s.sat)
    (Some (Fixed (record { kind = fixed_kind s; sat = is_once s.sat }))) None (λ h. tt) (λ h. tt)

pub number_known : (s : Words) → IfSome (number_type s) IsKnownType
number_known s =
    if_both (λ o. IfSome o IsKnownType) (is_never s.fract && is_never s.accum) (integer_type s) (fixed_type s)
    (λ h. integer_known s) (λ h. fixed_known s)

-- ---- types of places

some_bits : (kind : FxKind) → 1 ≤ (format_of kind).bits / 8
some_bits ShortFract = omega arith
some_bits Fract = omega arith
some_bits LongFract = omega arith
some_bits ShortAccum = omega arith
some_bits Accum = omega arith
some_bits LongAccum = omega arith
some_bits UnsignedShortFract = omega arith
some_bits UnsignedFract = omega arith
some_bits UnsignedLongFract = omega arith
some_bits UnsignedShortAccum = omega arith
some_bits UnsignedAccum = omega arith
some_bits UnsignedLongAccum = omega arith

some_width : (s : SpaceId) → 1 ≤ width s
some_width Flash = omega arith
some_width FarFlash = omega arith
some_width Data = omega arith
some_width Generic = omega arith

some_bytes : (b : ℕ) → IsIntegerSize b → 1 ≤ b
some_bytes b (inl e) = omega arith
some_bytes b (inr (inl e)) = omega arith
some_bytes b (inr (inr e)) = omega arith

number_place : (structs : List PlainStruct) (t : Arithmetic) → IsKnownType t → IsPlaceType structs (type_of t)
number_place structs (Integer t) h =
    record { object = record { names = tt; form = h }; some = some_bytes t.bytes h; usable = h }
number_place structs (Fixed t) h =
    record { object = record { names = tt; form = tt }; some = some_bits t.kind; usable = tt }

pointer_place : (structs : List PlainStruct) (s : SpaceId) (k : Bool) (ty : PlainType) → IsPlaceType structs ty
    → IsPlaceType structs (pointer s k ty)
pointer_place structs s k ty h = record {
  object = record { names = h.object.names; form = tt };
  some = some_width s;
  usable = (h.object, h.some, h.usable);
}

module _ (structs : List PlainStruct) (tags : Tags)
    (defined : (n : List ℕ) (i : ℕ) → tag_state n tags ≡ StructTag i → IsPlaceType structs (struct i)) where
  abbrev IsBase : BaseType → Type 0
  IsBase Void = ⊤
  IsBase (Number t) = IsKnownType t
  IsBase (Struct i) = IsPlaceType structs (struct i)

  abbrev IsLone : Option Lone → Type 0
  IsLone None = ⊤
  IsLone (Some l) = IfSome l.ty IsBase

  abbrev pub IsPlaced : Option PlainType → Type 0
  IsPlaced o = IfSome o (IsPlaceType structs)

  -- ---- specifiers

  lone_word : (word : WordKind) → IfSome (lone_type word) IsBase
  lone_word w.Void = tt
  lone_word w.Int8 = inl refl
  lone_word w.Uint8 = inl refl
  lone_word w.Int16 = inr (inl refl)
  lone_word w.Uint16 = inr (inl refl)
  lone_word w.Int32 = inr (inr refl)
  lone_word w.Uint32 = inr (inr refl)
  lone_word word = tt

  word_kept : (t : TypeWords) (at : ℕ) (word : WordKind) (o : Option BaseType) → IsLone t.lone → IfSome o IsBase
      → IsLone (with_word_as o t at word).lone
  word_kept t at word None h k = h
  word_kept t at word (Some ty) h k = k

  tag_kept : (n : List ℕ) (s : TagState) → tag_state n tags ≡ s → IfSome (struct_type s) IsBase
  tag_kept n Undefined e = tt
  tag_kept n Broken e = tt
  tag_kept n (StructTag i) e = defined n i e

  spec_kept : (s : Specified) (x : t.Spec) → IsLone s.types.lone → IsLone (with_spec tags s x).types.lone
  spec_kept s (t.word_spec spot word) h = word_kept s.types spot.index word (lone_type word) h (lone_word word)
  spec_kept s (t.struct_spec spot (t.identifier at n)) h = tag_kept n (tag_state n tags) refl

  specs_kept : (s : Specified) (xs : List t.Spec) → IsLone s.types.lone → IsLone (specified_from tags s xs).types.lone
  specs_kept s [] h = h
  specs_kept s (x ∷ xs) h = specs_kept (with_spec tags s x) xs (spec_kept s x h)

  specified_kept : (ss : t.Specs) → IsLone (specified tags ss).types.lone
  specified_kept (t.specs first more) = specs_kept (with_spec tags nothing_said first) more (spec_kept nothing_said first tt)

  -- ---- stars

  pointer_kept : (d : Declared) (o : Option PlainType) → IsPlaced o
      → IsPlaced (option_map (pointer (space_in d.qualities.space) d.qualities.konst) o)
  pointer_kept d None h = tt
  pointer_kept d (Some ty) h = pointer_place structs (space_in d.qualities.space) d.qualities.konst ty h

  stars_kept : (d : Declared) (stars : List t.Star) → IsPlaced d.ty → IsPlaced (behind d stars).ty
  stars_kept d [] h = h
  stars_kept d (t.star spot qs ∷ more) h =
      stars_kept (record { ty = pointer_to d; qualities = qualities_of qs }) more (pointer_kept d d.ty h)

  -- ---- both

  abbrev Said : Option BaseType → Option Lone → Qualities → List t.Star → Type 0
  Said o given q stars =
      IsPlaced (meant_type (at_void o given) (behind (record { ty = option_map base_type o; qualities = q }) stars).ty)

  nothing_said_kept : (given : Option Lone) (q : Qualities) (stars : List t.Star) → Said None given q stars
  nothing_said_kept given q stars = stars_kept (record { ty = None; qualities = q }) stars tt

  number_said : (o : Option Arithmetic) (given : Option Lone) (q : Qualities) (stars : List t.Star) → IfSome o IsKnownType
      → Said (option_map Number o) given q stars
  number_said None given q stars h = nothing_said_kept given q stars
  number_said (Some t) given q stars h = stars_kept (record { ty = Some (type_of t); qualities = q }) stars (number_place structs t h)

  base_said : (o : Option BaseType) (l : Lone) (q : Qualities) (stars : List t.Star) → IfSome o IsBase → Said o (Some l) q stars
  base_said None l q stars h = nothing_said_kept (Some l) q stars
  base_said (Some Void) l q stars h = tt
  base_said (Some (Number t)) l q stars h = number_said (Some t) (Some l) q stars h
  base_said (Some (Struct i)) l q stars h = stars_kept (record { ty = Some (struct i); qualities = q }) stars h

  lone_said : (given : Option Lone) (q : Qualities) (stars : List t.Star) → IsLone given → Said (lone_of given) given q stars
  lone_said None q stars h = nothing_said_kept None q stars
  lone_said (Some l) q stars h = base_said l.ty l q stars h

  said_by_words : (times : Times) (words : Words) (given : Option Lone) (q : Qualities) (stars : List t.Star) → IsLone given
      → Said (base_by times words given) given q stars
  said_by_words Never words given q stars h = number_said (number_type words) given q stars (number_known words)
  said_by_words Once words given q stars h =
      if_both (λ o. Said o given q stars) (are_none words) (lone_of given) None (λ e. lone_said given q stars h)
      (λ e. nothing_said_kept given q stars)
  said_by_words Often words given q stars h = nothing_said_kept given q stars

  pub said_placed : (x : t.TypeName) → IsPlaced (meant_type (void_said tags x) (said_type tags x))
  unfolding said_type void_said
  said_placed (t.type_name ss stars) =
      let s = specified tags ss in
      said_by_words s.types.lones s.types.words s.types.lone s.qualities stars (specified_kept ss)

-- A type name at which no rule is broken says a type that has a size.
use Rattle.std.proofs.Common.{◌≡◌, ◌<◌, ℕ, Bool, true, false, not, ◌&&◌, ◌||◌, List, [], ◌∷◌, refl, inl, inr, arith}
use Rattle.std.specs.Prelude.{nat_lt, ⊤, Option, Some, None, IsSome, IsSomeAnd, IfSome, option_map}
use Rattle.std.proofs.lemmas.Bool.{or_parts, not-false, both_ways, true≢false, false≢true}
use Rattle.std.proofs.lemmas.Bool.Decides.{nat_tests}
use Rattle.ec_check_operands.specs.Faults.{Judgement}
use Rattle.ec_grammar.specs.declared.token.WordKind.{WordKind}
use Rattle.ec_grammar.specs.declared.token.WordKind.TheVariants as w
use Rattle.ec_grammar.specs.declared.Qualifier.{Qualifier}
use Rattle.ec_grammar.specs.Trees as t
use Rattle.ec_core.specs.declared.arithmetic_types.Arithmetic.{Arithmetic}
use Rattle.ec_core.specs.declared.arithmetic_types.Arithmetic.TheVariants.{Integer, Fixed}
use Rattle.ec_core.specs.ArithmeticTypes.{type_of}
use Rattle.ec_core.specs.ArithmeticValues.{IsKnownType}
use Rattle.ec_core.specs.Plain.{PlainType, void, integer, fixed, pointer, array, struct}
use Rattle.ec_check_names.specs.declared.qualifiers.Qualities.{Qualities}
use Rattle.ec_check_names.specs.declared.specifiers.Lone.{Lone}
use Rattle.ec_check_names.specs.declared.specifiers.Specified.{Specified}
use Rattle.ec_check_names.specs.declared.specifiers.TypeWords.{TypeWords}
use Rattle.ec_check_names.specs.declared.tags.TagState.{TagState}
use Rattle.ec_check_names.specs.declared.tags.TagState.TheVariants.{Undefined, Broken, Struct as StructTag}
use Rattle.ec_check_names.specs.declared.words.BaseType.{BaseType}
use Rattle.ec_check_names.specs.declared.words.BaseType.TheVariants.{Void, Number, Struct}
use Rattle.ec_check_names.specs.declared.words.Times.{Times}
use Rattle.ec_check_names.specs.declared.words.Times.TheVariants.{Never, Once, Often}
use Rattle.ec_check_names.specs.declared.words.Words.{Words}
use Rattle.ec_check_names.specs.Qualifiers.{unqualified, with_quality, qualities_of, qualifier_rules_from, space_in}
use Rattle.ec_check_names.specs.Specifiers.{storages_of, with_word_as, struct_type, named_by, names_type, lone_of, base_by, at_void}
use Rattle.ec_check_names.specs.Specifiers.{with_spec, with_spec_quality, spec_rules, more_spec_rules, specs_rules, specified_from}
use Rattle.ec_check_names.specs.Specifiers.{specified, void_at, nothing_said}
use Rattle.ec_check_names.specs.Stars.{Declared, declared_by, pointer_to, behind, star_rules}
use Rattle.ec_check_names.specs.Tags.{Tags, tag_state, is_undefined}
use Rattle.ec_check_names.specs.Words.{again, is_never, is_at_most_once, number_type, are_none, lone_type, base_type}
use Rattle.ec_check_expressions.specs.Known.{names_below, is_sized}
use Rattle.ec_check_expressions.specs.TypeNames.{said_type, void_said, void_rules, type_name_rules}
use Rattle.ec_check_expression_laws.specs.Laws.{AreUnbroken, KeptTypesAreSaid}
use Rattle.ec_check_expression_laws.specs.Suits.{IsWholeTag}
use Rattle.ec_check_expression_laws.proofs.SaidTypes.{if_both, number_known}

-- ---- rules behind others

behind_qualifiers : (konst : Bool) (q : Qualities) (xs : List Qualifier) (rest : List Judgement)
    → AreUnbroken (qualifier_rules_from konst q xs rest) → AreUnbroken rest
behind_qualifiers konst q [] rest h = h
behind_qualifiers konst q (x ∷ xs) rest h = behind_qualifiers konst (with_quality q x.spot.index x.word) xs rest h.1.1

pub behind_stars : (stars : List t.Star) (rest : List Judgement) → AreUnbroken (star_rules stars rest) → AreUnbroken rest
behind_stars [] rest h = h
behind_stars (t.star spot qs ∷ more) rest h =
    behind_stars more rest (behind_qualifiers (qualities_of qs).konst unqualified qs (star_rules more rest) h)

pub no_void : (o : Option ℕ) → AreUnbroken (void_rules o []) → o ≡ None
no_void None h = refl
no_void (Some at) h = absurd (true≢false h.0)

-- ---- sizes

module _ (n : ℕ) (tags : Tags) (whole : (name : List ℕ) → IsWholeTag n (tag_state name tags)) where
  abbrev IsBase : BaseType → Type 0
  IsBase Void = ⊤
  IsBase (Number t) = IsKnownType t
  IsBase (Struct i) = i < n

  -- where one specifier names the type alone, it names one
  abbrev HasLone : Times → Option Lone → Type 0
  HasLone Never given = ⊤
  HasLone Once given = IsSomeAnd given (λ l. IsSomeAnd l.ty IsBase)
  HasLone Often given = ⊤

  abbrev IsSized : Option PlainType → Type 0
  IsSized o = IsSomeAnd o (λ ty. is_sized n ty ≡ true)

  one_lone : (times : Times) (at : ℕ) (o : Option BaseType) → IsSomeAnd o IsBase → HasLone (again times) (Some (record { at = at; ty = o }))
  one_lone Never at o h = h
  one_lone Once at o h = tt
  one_lone Often at o h = tt

  lone_word : (word : WordKind) → IfSome (lone_type word) IsBase
  lone_word w.Void = tt
  lone_word w.Int8 = inl refl
  lone_word w.Uint8 = inl refl
  lone_word w.Int16 = inr (inl refl)
  lone_word w.Uint16 = inr (inl refl)
  lone_word w.Int32 = inr (inr refl)
  lone_word w.Uint32 = inr (inr refl)
  lone_word word = tt

  word_kept : (t : TypeWords) (at : ℕ) (word : WordKind) (o : Option BaseType) → HasLone t.lones t.lone → IfSome o IsBase
      → HasLone (with_word_as o t at word).lones (with_word_as o t at word).lone
  word_kept t at word None h k = h
  word_kept t at word (Some ty) h k = one_lone t.lones at (Some ty) k

  tag_kept : (s : TagState) → IsWholeTag n s → is_undefined s ≡ false → IsSomeAnd (struct_type s) IsBase
  tag_kept Undefined h e = absurd (true≢false e)
  tag_kept Broken h e = absurd h
  tag_kept (StructTag i) h e = h

  spec_kept : (s : Specified) (before : Qualities) (konst : Bool) (x : t.Spec) (rest : List Judgement) → HasLone s.types.lones s.types.lone
      → AreUnbroken (spec_rules tags before konst x rest)
      → HasLone (with_spec tags s x).types.lones (with_spec tags s x).types.lone × AreUnbroken rest
  spec_kept s before konst (t.word_spec spot word) rest h k = (word_kept s.types spot.index word (lone_type word) h (lone_word word), k.1.1)
  spec_kept s before konst (t.struct_spec spot (t.identifier at name)) rest h k =
      (one_lone s.types.lones spot.index (struct_type (tag_state name tags)) (tag_kept (tag_state name tags) (whole name) k.0), k.1)

  specs_kept : (s : Specified) (before : Qualities) (konst : Bool) (xs : List t.Spec) (rest : List Judgement)
      → HasLone s.types.lones s.types.lone
      → AreUnbroken (more_spec_rules tags before konst xs rest)
      → HasLone (specified_from tags s xs).types.lones (specified_from tags s xs).types.lone × AreUnbroken rest
  specs_kept s before konst [] rest h k = (h, k)
  specs_kept s before konst (x ∷ xs) rest h k =
      let g = spec_kept s before konst x (more_spec_rules tags (with_spec_quality before x) konst xs rest) h k in
      specs_kept (with_spec tags s x) (with_spec_quality before x) konst xs rest g.0 g.1

  -- ---- types

  below : (ty : PlainType) → is_sized n ty ≡ true → names_below n ty ≡ true
  below void e = refl
  below (integer signed bytes) e = refl
  below (fixed kind sat) e = refl
  below (pointer s k t) e = e
  below (array of len) e = absurd (false≢true e)
  below (struct i) e = e

  number_sized : (t : Arithmetic) → IsKnownType t → is_sized n (type_of t) ≡ true
  number_sized (Fixed t) h = refl
  number_sized (Integer t) (inl e) = grind (arith, nat_tests, e)
  number_sized (Integer t) (inr (inl e)) = grind (arith, nat_tests, e)
  number_sized (Integer t) (inr (inr e)) = grind (arith, nat_tests, e)

  struct_sized : (i : ℕ) → i < n → nat_lt i n ≡ true
  struct_sized i h = grind (arith, nat_tests, h)

  pointer_sized : (d : Declared) (o : Option PlainType) → IsSized o
      → IsSized (option_map (pointer (space_in d.qualities.space) d.qualities.konst) o)
  pointer_sized d None h = absurd h
  pointer_sized d (Some ty) h = below ty h

  stars_sized : (d : Declared) (stars : List t.Star) → IsSized d.ty → IsSized (behind d stars).ty
  stars_sized d [] h = h
  stars_sized d (t.star spot qs ∷ more) h =
      stars_sized (record { ty = pointer_to d; qualities = qualities_of qs }) more (pointer_sized d d.ty h)

  abbrev Said : Option BaseType → Qualities → List t.Star → Type 0
  Said o q stars = IsSized (behind (record { ty = option_map base_type o; qualities = q }) stars).ty

  numbers_said : (o : Option Arithmetic) (q : Qualities) (stars : List t.Star) → IsSome o → IfSome o IsKnownType
      → Said (option_map Number o) q stars
  numbers_said None q stars h k = absurd (false≢true h)
  numbers_said (Some t) q stars h k = stars_sized (record { ty = Some (type_of t); qualities = q }) stars (number_sized t k)

  nowhere : (at : ℕ) → ◌≡◌ {A = Option ℕ} (Some at) None → ⊥
  nowhere at e = cc

  base_said : (l : Lone) (o : Option BaseType) (q : Qualities) (stars : List t.Star) → IsSomeAnd o IsBase → at_void o (Some l) ≡ None
      → Said o q stars
  base_said l None q stars h e = absurd h
  base_said l (Some Void) q stars h e = absurd (nowhere l.at e)
  base_said l (Some (Number t)) q stars h e = stars_sized (record { ty = Some (type_of t); qualities = q }) stars (number_sized t h)
  base_said l (Some (Struct i)) q stars h e = stars_sized (record { ty = Some (struct i); qualities = q }) stars (struct_sized i h)

  lone_said : (given : Option Lone) (q : Qualities) (stars : List t.Star) → IsSomeAnd given (λ l. IsSomeAnd l.ty IsBase)
      → at_void (lone_of given) given ≡ None → Said (lone_of given) q stars
  lone_said None q stars h e = absurd h
  lone_said (Some l) q stars h e = base_said l l.ty q stars h e

  words_said : (times : Times) (words : Words) (given : Option Lone) (q : Qualities) (stars : List t.Star) → named_by times words ≡ true
      → HasLone times given → at_void (base_by times words given) given ≡ None → Said (base_by times words given) q stars
  words_said Never words given q stars named h e = numbers_said (number_type words) q stars named (number_known words)
  words_said Once words given q stars named h e =
      if_both (λ o. at_void o given ≡ None → Said o q stars) (are_none words) (lone_of given) None
      (λ z v. lone_said given q stars h v) (λ z v. absurd (both_ways (are_none words) z named)) e
  words_said Often words given q stars named h e = absurd (false≢true named)

  -- what is said where no rule of the specifiers is broken
  pub specs_said : (may_store : Bool) (ss : t.Specs) (stars : List t.Star) (rest : List Judgement)
      → AreUnbroken (specs_rules tags may_store ss rest)
      → void_at (specified tags ss).types ≡ None → IsSized (behind (declared_by (specified tags ss)) stars).ty × AreUnbroken rest
  specs_said may_store (t.specs first more) stars rest h v =
      let s = specified tags (t.specs first more) in
      let a = spec_kept nothing_said unqualified s.qualities.konst first
      (more_spec_rules tags (with_spec_quality unqualified first) s.qualities.konst more rest) tt h.1 in
      let b = specs_kept (with_spec tags nothing_said first) (with_spec_quality unqualified first) s.qualities.konst more rest a.0 a.1 in
      let counts = storages_of (t.specs first more) in
      let c =
      or_parts (not (names_type s.types) || not (is_at_most_once counts.times)) (not may_store && not (is_never counts.times)) h.0 in
      let named = not-false (names_type s.types) (or_parts (not (names_type s.types)) (not (is_at_most_once counts.times)) c.0).0 in
      (words_said s.types.lones s.types.words s.types.lone s.qualities stars named b.0 v, b.1)

  behind_specs : (may_store : Bool) (ss : t.Specs) (rest : List Judgement) → AreUnbroken (specs_rules tags may_store ss rest)
      → AreUnbroken rest
  behind_specs may_store (t.specs first more) rest h =
      let s = specified tags (t.specs first more) in
      let a = spec_kept nothing_said unqualified s.qualities.konst first
      (more_spec_rules tags (with_spec_quality unqualified first) s.qualities.konst more rest) tt h.1 in
      (specs_kept (with_spec tags nothing_said first) (with_spec_quality unqualified first) s.qualities.konst more rest a.0 a.1).1

  -- what is said where no rule is broken
  pub type_kept : (x : t.TypeName) → AreUnbroken (type_name_rules tags x []) → (void_said tags x ≡ None) × IsSized (said_type tags x)
  unfolding said_type void_said type_name_rules
  type_kept (t.type_name ss stars) h =
      let voids = void_rules (void_at (specified tags ss).types) [] in
      let v = no_void (void_at (specified tags ss).types) (behind_stars stars voids (behind_specs false ss (star_rules stars voids) h)) in
      (v, (specs_said false ss stars (star_rules stars voids) h v).0)

pub kept_types_are_said : KeptTypesAreSaid
kept_types_are_said n tags whole may_store ss stars rest h v = (specs_said n tags whole may_store ss stars rest h v).0

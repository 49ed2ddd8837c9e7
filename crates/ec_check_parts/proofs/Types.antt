-- What specifiers and stars say is what the walk makes of them.
use Rattle.std.proofs.Common.{◌≡◌, ◌∙◌, ℕ, Bool, true, false, List, [], ◌∷◌, refl, sym, ap, subst}
use Rattle.std.specs.Prelude.{◌↔◌, if◌then◌else◌, is_some, option_map, Option, Some, None}
use Rattle.std.specs.Bool.{Decides}
use Rattle.std.proofs.lemmas.Bool.{false≢true}
use Rattle.ec_space.specs.declared.space.SpaceId.{SpaceId}
use Rattle.ec_grammar.specs.declared.Qualifier.{Qualifier}
use Rattle.ec_grammar.specs.declared.token.WordKind.{WordKind}
use Rattle.ec_grammar.specs.declared.token.WordKind.TheVariants as w
use Rattle.ec_grammar.specs.Trees.{Spec, word_spec, struct_spec, Specs, specs, Star, star, identifier}
use Rattle.ec_core.specs.declared.arithmetic_types.Arithmetic.{Arithmetic}
use Rattle.ec_core.specs.declared.arithmetic_types.Arithmetic.TheVariants.{Integer, Fixed}
use Rattle.ec_core.specs.Plain.{PlainType, void, pointer}
use Rattle.ec_check_names.specs.declared.qualifiers.Qualities.{Qualities}
use Rattle.ec_check_names.specs.declared.qualifiers.SpaceWord.{SpaceWord}
use Rattle.ec_check_names.specs.declared.specifiers.Lone.{Lone}
use Rattle.ec_check_names.specs.declared.specifiers.Specified.{Specified}
use Rattle.ec_check_names.specs.declared.words.BaseType.{BaseType}
use Rattle.ec_check_names.specs.declared.words.BaseType.TheVariants.{Void, Number, Struct}
use Rattle.ec_check_names.specs.declared.words.Times.{Times}
use Rattle.ec_check_names.specs.declared.words.Times.TheVariants.{Never, Once, Often}
use Rattle.ec_check_names.specs.declared.words.Words.{Words}
use Rattle.ec_check_names.specs.Qualifiers.{space_word, first_space, with_quality, qualities_from, qualities_of, unqualified, space_in}
use Rattle.ec_check_names.specs.Specifiers.{specified, specified_from, with_spec, nothing_said, base_of, base_by, at_void, void_at}
use Rattle.ec_check_names.specs.Stars.{Declared, declared_by, behind, pointer_to}
use Rattle.ec_check_names.specs.Tags.{Tags}
use Rattle.ec_check_names.specs.Words.{base_type, number_type, are_none}
use Rattle.ec_check_expressions.specs.Types.{meant_type}
use Rattle.ec_check_declarations.specs.Declarators.{head_of}
use Rattle.ec_check_meanings.proofs.Options.{inside, nothing_there}
use Rattle.ec_check_parts.specs.TypeWords.{Name}
use Rattle.ec_check_parts.specs.Types.{NamesSpace, flash, far_flash, data_space, SaySpace, unsaid, first_word, later_word, SaysConst}
use Rattle.ec_check_parts.specs.Types.{Behind, no_star, a_star, SayType, said, MeanType}
use Rattle.ec_check_parts.specs.Said.{TypesAreSaid}
use Rattle.ec_check_parts.specs.Words.{Word, words_from, words_among, words_of, own_words, IsSpaceWord}
use Rattle.ec_check_parts.proofs.Qualifiers.{star_says}
use Rattle.ec_check_parts.proofs.Specifiers.{says}
use Rattle.ec_check_parts.proofs.Tests.{space_told}
use Rattle.ec_check_parts.proofs.TypeWords.{type_told, name_told}

-- ---- spaces

space_named : (k : WordKind) (s : SpaceId) → NamesSpace k s → space_word k ≡ Some s
space_named _ _ flash = refl
space_named _ _ far_flash = refl
space_named _ _ data_space = refl

named_space : (k : WordKind) (s : SpaceId) → space_word k ≡ Some s → NamesSpace k s
named_space w.Flash s e = subst (NamesSpace w.Flash) (inside e) flash
named_space w.FarFlash s e = subst (NamesSpace w.FarFlash) (inside e) far_flash
named_space w.Data s e = subst (NamesSpace w.Data) (inside e) data_space
named_space k s e = absurd (nothing_there s e)

no_space : (k : WordKind) → ¬ IsSpaceWord k → space_word k ≡ None
no_space w.Flash n = absurd (n tt)
no_space w.FarFlash n = absurd (n tt)
no_space w.Data n = absurd (n tt)
no_space k n = refl

-- the first space that words say, behind one or none
abbrev spaces_from : Option SpaceWord → List Word → Option SpaceWord
spaces_from q [] = q
spaces_from q (x ∷ ws) = spaces_from (first_space q x.at (space_word x.kind)) ws

kept : (s : SpaceWord) (ws : List Word) → spaces_from (Some s) ws ≡ Some s
kept s [] = refl
kept s (x ∷ ws) = kept s ws

-- the space of words behind one that names a space or none
abbrev space_behind : (at : ℕ) → List Word → Option SpaceId → SpaceId
space_behind at ws o = space_in (spaces_from (first_space None at o) ws)

says_space : (ws : List Word) → SaySpace ws (space_in (spaces_from None ws))
says_space [] = unsaid
says_space (x ∷ ws) = by (space_word x.kind) refl (says_space ws)
  where
    by : (o : Option SpaceId) → space_word x.kind ≡ o → SaySpace ws (space_in (spaces_from None ws)) → SaySpace (x ∷ ws) (space_behind x.at ws o)
    by None e h = later_word (λ p. false≢true (ap is_some (sym e) ∙ (space_told x.kind).1 p)) h
    by (Some s) e h =
        subst (SaySpace (x ∷ ws)) (sym (ap space_in (kept (record { at = x.at; space = s }) ws))) (first_word (named_space x.kind s e))

space_said : (ws : List Word) (s : SpaceId) → SaySpace ws s → space_in (spaces_from None ws) ≡ s
space_said _ _ unsaid = refl
space_said _ _ (first_word {x = x} {ws = ws} {s = s} p) =
    ap (space_behind x.at ws) (space_named x.kind s p) ∙ ap space_in (kept (record { at = x.at; space = s }) ws)
space_said _ _ (later_word {x = x} {ws = ws} {s = s} n h) =
    ap (space_behind x.at ws) (no_space x.kind n) ∙ space_said ws s h

-- the walk over a star's qualifiers, and over specifiers
star_spaces : (q : Qualities) (qs : List Qualifier) → (qualities_from q qs).space ≡ spaces_from q.space (words_of qs)
star_spaces q [] = refl
star_spaces q (x ∷ xs) = star_spaces (with_quality q x.spot.index x.word) xs

spec_spaces : (tags : Tags) (s : Specified) (xs : List Spec)
    → (specified_from tags s xs).qualities.space ≡ spaces_from s.qualities.space (words_from xs)
spec_spaces tags s [] = refl
spec_spaces tags s (struct_spec spot (identifier at n) ∷ xs) = spec_spaces tags (with_spec tags s (struct_spec spot (identifier at n))) xs
spec_spaces tags s (word_spec spot k ∷ xs) = spec_spaces tags (with_spec tags s (word_spec spot k)) xs

-- ---- what qualifies

-- words say const or not, and a space, as the walk does
record AreSaid (q : Qualities) (ws : List Word) : Type 0 where
  pub konst : SaysConst q.konst ws
  pub space : SaySpace ws (space_in q.space)

of_star : (qs : List Qualifier) → AreSaid (qualities_of qs) (words_of qs)
of_star qs = record {
  konst = star_says qs;
  space = subst (λ (o : Option SpaceWord). SaySpace (words_of qs) (space_in o)) (sym (star_spaces unqualified qs)) (says_space (words_of qs));
}

of_specs : (tags : Tags) (ss : Specs) → AreSaid (specified tags ss).qualities (words_among ss)
of_specs tags (specs first more) = record {
  konst = says tags (specs first more);
  space =
      subst (λ (o : Option SpaceWord). SaySpace (words_from (first ∷ more)) (space_in o))
      (sym (spec_spaces tags nothing_said (first ∷ more))) (says_space (words_from (first ∷ more)));
}

-- what words say there is once
pub same_const : {P : Type 0} → (a b : Bool) → Decides a P → Decides b P → a ≡ b
same_const true true d e = refl
same_const true false d e = sym (e.1 (d.0 refl))
same_const false true d e = d.1 (e.0 refl)
same_const false false d e = refl

pub same_space : (ws : List Word) (a b : SpaceId) → SaySpace ws a → SaySpace ws b → a ≡ b
same_space ws a b h g = sym (space_said ws a h) ∙ space_said ws b g

-- ---- stars

behind_is : (d : Declared) (ws : List Word) (stars : List Star) (base ty : PlainType) → AreSaid d.qualities ws → d.ty ≡ Some base
    → (behind d stars).ty ≡ Some ty → Behind base ws stars ty
behind_is d ws [] base ty q e h = subst (Behind base ws []) (inside (sym e ∙ h)) no_star
behind_is d ws (star spot qs ∷ more) base ty q e h =
    a_star q.space q.konst
    (behind_is (record { ty = pointer_to d; qualities = qualities_of qs }) (words_of qs) more
    (pointer (space_in d.qualities.space) d.qualities.konst base) ty (of_star qs)
    (ap (option_map (pointer (space_in d.qualities.space) d.qualities.konst)) e) h)

is_behind : (base ty : PlainType) (ws : List Word) (stars : List Star) → Behind base ws stars ty → (d : Declared) → AreSaid d.qualities ws
    → d.ty ≡ Some base → (behind d stars).ty ≡ Some ty
is_behind _ _ _ _ no_star = λ d q e. e
is_behind _ _ _ _ (a_star {ty = ty} {to = to} {ws = ws} {spot = spot} {qs = qs} {more = more} {space = space} {konst = konst} s c h) =
    λ d q e.
    is_behind (pointer space konst ty) to (words_of qs) more h (record { ty = pointer_to d; qualities = qualities_of qs }) (of_star qs)
    (ap (option_map (pointer (space_in d.qualities.space) d.qualities.konst)) e
    ∙ ap (λ (z : SpaceId). Some (pointer z d.qualities.konst ty)) (same_space ws (space_in d.qualities.space) space q.space s)
    ∙ ap (λ (z : Bool). Some (pointer space z ty)) (same_const d.qualities.konst konst q.konst c))

own_said : (d : Declared) (ws : List Word) (stars : List Star) → AreSaid d.qualities ws
    → AreSaid (behind d stars).qualities (own_words ws stars)
own_said d ws [] q = q
own_said d ws (star spot qs ∷ more) q = own_said (record { ty = pointer_to d; qualities = qualities_of qs }) (words_of qs) more (of_star qs)

-- ---- specifiers and stars

behind_none : (d : Declared) (stars : List Star) → d.ty ≡ None → (behind d stars).ty ≡ None
behind_none d [] e = e
behind_none d (star spot qs ∷ more) e =
    behind_none (record { ty = pointer_to d; qualities = qualities_of qs }) more
    (ap (option_map (pointer (space_in d.qualities.space) d.qualities.konst)) e)

pub type_said : (tags : Tags) (ss : Specs) (stars : List Star) (ty : PlainType) → (head_of (specified tags ss) stars).ty ≡ Some ty
    ↔ SayType tags ss stars ty
type_said tags ss stars ty = (λ h. there (declared_by (specified tags ss)).ty refl h, back)
  where
    there : (o : Option PlainType) → (declared_by (specified tags ss)).ty ≡ o → (head_of (specified tags ss) stars).ty ≡ Some ty
        → SayType tags ss stars ty
    there None e h = absurd (nothing_there ty (sym (behind_none (declared_by (specified tags ss)) stars e) ∙ h))
    there (Some base) e h =
        said ((name_told tags ss base).0 e)
        (behind_is (declared_by (specified tags ss)) (words_among ss) stars base ty (of_specs tags ss) e h)

    back : SayType tags ss stars ty → (head_of (specified tags ss) stars).ty ≡ Some ty
    back (said {base = base} n h) =
        is_behind base ty (words_among ss) stars h (declared_by (specified tags ss)) (of_specs tags ss) ((name_told tags ss base).1 n)

-- what is declared itself is const or not, and in a space
pub const_is : (tags : Tags) (ss : Specs) (stars : List Star)
    → SaysConst (head_of (specified tags ss) stars).qualities.konst (own_words (words_among ss) stars)
const_is tags ss stars = (own_said (declared_by (specified tags ss)) (words_among ss) stars (of_specs tags ss)).konst

pub space_is : (tags : Tags) (ss : Specs) (stars : List Star)
    → SaySpace (own_words (words_among ss) stars) (space_in (head_of (specified tags ss) stars).qualities.space)
space_is tags ss stars = (own_said (declared_by (specified tags ss)) (words_among ss) stars (of_specs tags ss)).space

-- ---- void

pub void_names : (o : Option BaseType) → option_map base_type o ≡ Some void → o ≡ Some Void
void_names None e = absurd (nothing_there void e)
void_names (Some Void) e = refl
void_names (Some (Number (Integer i))) e = absurd (no_void (inside e))
  where
    no_void : base_type (Number (Integer i)) ≡ void → ⊥
    no_void q = cc
void_names (Some (Number (Fixed i))) e = absurd (no_void (inside e))
  where
    no_void : base_type (Number (Fixed i)) ≡ void → ⊥
    no_void q = cc
void_names (Some (Struct i)) e = absurd (no_void (inside e))
  where
    no_void : base_type (Struct i) ≡ void → ⊥
    no_void q = cc

no_number : (o : Option Arithmetic) → option_map Number o ≡ Some Void → ⊥
no_number None e = cc
no_number (Some a) e = cc

no_some : (at : ℕ) → ◌≡◌ {A = Option ℕ} (Some at) None → ⊥
no_some at e = cc

-- the word stands somewhere where void is named
void_there : (lones : Times) (words : Words) (alone : Option Lone) → at_void (base_by lones words alone) alone ≡ None
    → base_by lones words alone ≡ Some Void → ⊥
void_there Never words alone h e = no_number (number_type words) e
void_there Once words None h e = by (are_none words) e
  where
    by : (b : Bool) → ◌≡◌ {A = Option BaseType} (if b then None else None) (Some Void) → ⊥
    by true e = cc
    by false e = cc
void_there Once words (Some l) h e = no_some l.at (sym (ap (λ (o : Option BaseType). at_void o (Some l)) e) ∙ h)
void_there Often words alone h e = never e
  where
    never : ◌≡◌ {A = Option BaseType} None (Some Void) → ⊥
    never e = cc

void_nowhere : (o : Option BaseType) (alone : Option Lone) → ¬ (o ≡ Some Void) → at_void o alone ≡ None
void_nowhere None None n = refl
void_nowhere None (Some l) n = refl
void_nowhere (Some Void) alone n = absurd (n refl)
void_nowhere (Some (Number a)) None n = refl
void_nowhere (Some (Number a)) (Some l) n = refl
void_nowhere (Some (Struct i)) None n = refl
void_nowhere (Some (Struct i)) (Some l) n = refl

pub void_told : (tags : Tags) (ss : Specs) → void_at (specified tags ss).types ≡ None ↔ (¬ Name tags ss void)
void_told tags ss =
    let t = (specified tags ss).types in (
      λ h n. void_there t.lones t.words t.lone h (void_names (base_of t) ((name_told tags ss void).1 n)),
      λ n. void_nowhere (base_of t) t.lone (λ e. n ((name_told tags ss void).0 (ap (option_map base_type) e))),
    )

pub meant : (v : Option ℕ) (o : Option PlainType) (ty : PlainType) → meant_type v o ≡ Some ty ↔ ((v ≡ None) × (o ≡ Some ty))
meant None o ty = (λ h. (refl, h), λ h. h.1)
meant (Some at) o ty = (λ h. absurd (nothing_there ty h), λ h. absurd (no_some at h.0))

pub type_meant : (tags : Tags) (ss : Specs) (stars : List Star) (ty : PlainType)
    → meant_type (void_at (specified tags ss).types) (head_of (specified tags ss) stars).ty ≡ Some ty ↔ MeanType tags ss stars ty
type_meant tags ss stars ty =
    let m = meant (void_at (specified tags ss).types) (head_of (specified tags ss) stars).ty ty in (
      λ h. record { said = (type_said tags ss stars ty).0 (m.0 h).1; no_void = (void_told tags ss).0 (m.0 h).0 },
      λ h. m.1 ((void_told tags ss).1 h.no_void, (type_said tags ss stars ty).1 h.said),
    )

pub types_are_said : TypesAreSaid
types_are_said = record { named = type_told; names = name_told; said = type_said }

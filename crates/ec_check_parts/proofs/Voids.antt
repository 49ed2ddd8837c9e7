-- Where the word `void` names the type.
use Rattle.std.proofs.Common.{◌≡◌, ◌∙◌, ℕ, Bool, true, false, List, [], ◌∷◌, refl, sym, ap, inl, inr}
use Rattle.std.specs.Prelude.{◌⊎◌, ◌↔◌, if◌then◌else◌, option_map, Option, Some, None}
use Rattle.ec_core.specs.declared.arithmetic_types.Arithmetic.{Arithmetic}
use Rattle.ec_core.specs.Plain.{void}
use Rattle.ec_grammar.specs.declared.token.WordKind.{WordKind}
use Rattle.ec_grammar.specs.declared.token.WordKind.TheVariants as w
use Rattle.ec_grammar.specs.Trees.{Spec, word_spec, struct_spec, Specs, specs, identifier}
use Rattle.ec_check_names.specs.declared.specifiers.Lone.{Lone}
use Rattle.ec_check_names.specs.declared.specifiers.Specified.{Specified}
use Rattle.ec_check_names.specs.declared.specifiers.TypeWords.{TypeWords}
use Rattle.ec_check_names.specs.declared.tags.TagState.{TagState}
use Rattle.ec_check_names.specs.declared.tags.TagState.TheVariants.{Undefined, Broken, Struct as StructTag}
use Rattle.ec_check_names.specs.declared.words.BaseType.{BaseType}
use Rattle.ec_check_names.specs.declared.words.BaseType.TheVariants.{Void, Number, Struct}
use Rattle.ec_check_names.specs.declared.words.Times.{Times}
use Rattle.ec_check_names.specs.declared.words.Times.TheVariants.{Never, Once, Often}
use Rattle.ec_check_names.specs.declared.words.Words.{Words}
use Rattle.ec_check_names.specs.Specifiers.{with_word_as, struct_type, base_of, base_by, at_void, void_at, with_spec}
use Rattle.ec_check_names.specs.Specifiers.{nothing_said, specified, specified_from}
use Rattle.ec_check_names.specs.Tags.{Tags, tag_state}
use Rattle.ec_check_names.specs.Words.{again, lone_type, number_type, are_none, base_type}
use Rattle.ec_check_parts.specs.Words.{Word, words_from, IsVoidWord, HasAt}
use Rattle.ec_check_parts.specs.Heads.{SaysVoid}
use Rattle.ec_check_parts.proofs.TypeWords.{name_told}
use Rattle.ec_check_parts.proofs.Types.{void_names}

-- ---- words that name a type alone

no_lone : (k : WordKind) → lone_type k ≡ None → ¬ IsVoidWord k
no_lone w.Void e = let q : ◌≡◌ {A = Option BaseType} (Some Void) None = e in cc
no_lone k e = λ h. h

void_type : (k : WordKind) (ty : BaseType) → lone_type k ≡ Some ty → IsVoidWord k → ◌≡◌ {A = Option BaseType} (Some ty) (Some Void)
void_type w.Void ty e p = sym e
void_type k ty e p = absurd p

type_void : (k : WordKind) (ty : BaseType) → lone_type k ≡ Some ty → ◌≡◌ {A = Option BaseType} (Some ty) (Some Void) → IsVoidWord k
type_void w.Void ty e q = tt
type_void k ty e q = other k (e ∙ q)
  where
    other : (k : WordKind) → lone_type k ≡ Some Void → IsVoidWord k
    other w.Void e = tt
    other w.Int8 e = cc
    other w.Uint8 e = cc
    other w.Int16 e = cc
    other w.Uint16 e = cc
    other w.Int32 e = cc
    other w.Uint32 e = cc
    other k e = cc

no_void : (s : TagState) → struct_type s ≡ Some Void → ⊥
no_void Undefined e = cc
no_void Broken e = cc
no_void (StructTag i) e = cc

-- what some words say of the type: no word names it alone, one does, or more do
data Says (ws : List Word) (t : TypeWords) : Type 0 where
  says_none : t.lones ≡ Never → ((at : ℕ) → ¬ HasAt IsVoidWord ws at) → Says ws t
  says_one : (l : Lone) → t.lones ≡ Once → t.lone ≡ Some l
      → ((at : ℕ) → HasAt IsVoidWord ws at ↔ ((l.ty ≡ Some Void) × (at ≡ l.at))) → Says ws t
  says_more : t.lones ≡ Often → Says ws t

often_with : (o : Option BaseType) (t : TypeWords) (at : ℕ) (k : WordKind) → t.lones ≡ Often → (with_word_as o t at k).lones ≡ Often
often_with None t at k e = e
often_with (Some ty) t at k e = ap again e

often_stays : (tags : Tags) (s : Specified) (xs : List Spec) → s.types.lones ≡ Often → (specified_from tags s xs).types.lones ≡ Often
often_stays tags s [] e = e
often_stays tags s (word_spec spot k ∷ xs) e =
    often_stays tags (with_spec tags s (word_spec spot k)) xs (often_with (lone_type k) s.types spot.index k e)
often_stays tags s (struct_spec spot (identifier at n) ∷ xs) e =
    often_stays tags (with_spec tags s (struct_spec spot (identifier at n))) xs (ap again e)

-- the lone word stays, and no other one stands behind it; or there are more
abbrev IsKept : List Word → Lone → TypeWords → Type 0
IsKept ws l t = ((t.lones ≡ Once) × (t.lone ≡ Some l) × ((at : ℕ) → ¬ HasAt IsVoidWord ws at)) ⊎ (t.lones ≡ Often)

kept_past : (at : ℕ) (k : WordKind) (ws : List Word) (l : Lone) (t : TypeWords) → ¬ IsVoidWord k → IsKept ws l t
    → IsKept (record { at = at; kind = k } ∷ ws) l t
kept_past at k ws l t n (inl (e, f, none)) = inl (e, f, nothing)
  where
    nothing : (b : ℕ) → ¬ HasAt IsVoidWord (record { at = at; kind = k } ∷ ws) b
    nothing b (inl (p, q)) = n p
    nothing b (inr h) = none b h
kept_past at k ws l t n (inr e) = inr e

once_kept : (tags : Tags) (s : Specified) (xs : List Spec) (l : Lone) → s.types.lones ≡ Once → s.types.lone ≡ Some l
    → IsKept (words_from xs) l (specified_from tags s xs).types
once_kept tags s [] l e f = inl (e, f, λ at h. h)
once_kept tags s (struct_spec spot (identifier at n) ∷ xs) l e f =
    inr (often_stays tags (with_spec tags s (struct_spec spot (identifier at n))) xs (ap again e))
once_kept tags s (word_spec spot k ∷ xs) l e f =
    by (lone_type k) refl
    (λ a b. once_kept tags (with_spec tags s (word_spec spot k)) xs l a b)
  where
    next : Specified
    next = with_spec tags s (word_spec spot k)

    by : (o : Option BaseType) → lone_type k ≡ o
        → (next.types.lones ≡ Once → next.types.lone ≡ Some l → IsKept (words_from xs) l (specified_from tags next xs).types)
        → IsKept (words_from (word_spec spot k ∷ xs)) l (specified_from tags next xs).types
    by None q go =
        let same = ap (λ o. with_word_as o s.types spot.index k) q in
        kept_past spot.index k (words_from xs) l (specified_from tags next xs).types (no_lone k q)
        (go (ap (λ t. t.lones) same ∙ e) (ap (λ t. t.lone) same ∙ f))
    by (Some ty) q go =
        inr (often_stays tags next xs (ap (λ o. (with_word_as o s.types spot.index k).lones) q ∙ ap again e))

says_past : (at : ℕ) (k : WordKind) (ws : List Word) (t : TypeWords) → ¬ IsVoidWord k → Says ws t
    → Says (record { at = at; kind = k } ∷ ws) t
says_past at k ws t n (says_none e h) = says_none e nothing
  where
    nothing : (b : ℕ) → ¬ HasAt IsVoidWord (record { at = at; kind = k } ∷ ws) b
    nothing b (inl (p, q)) = n p
    nothing b (inr v) = h b v
says_past at k ws t n (says_one l e f h) = says_one l e f (λ b. (there b, λ q. inr ((h b).1 q)))
  where
    there : (b : ℕ) → HasAt IsVoidWord (record { at = at; kind = k } ∷ ws) b → (l.ty ≡ Some Void) × (b ≡ l.at)
    there b (inl (p, q)) = absurd (n p)
    there b (inr v) = (h b).0 v
says_past at k ws t n (says_more e) = says_more e

-- a word that names a type alone stands before others
lone_first : (at : ℕ) (k : WordKind) (ws : List Word) (ty : BaseType) (t : TypeWords) → lone_type k ≡ Some ty
    → IsKept ws (record { at = at; ty = Some ty }) t → Says (record { at = at; kind = k } ∷ ws) t
lone_first at k ws ty t q (inr e) = says_more e
lone_first at k ws ty t q (inl (e, f, none)) = says_one (record { at = at; ty = Some ty }) e f (λ b. (there b, back b))
  where
    there : (b : ℕ) → HasAt IsVoidWord (record { at = at; kind = k } ∷ ws) b → (◌≡◌ {A = Option BaseType} (Some ty) (Some Void)) × (b ≡ at)
    there b (inl (p, a)) = (void_type k ty q p, a)
    there b (inr v) = absurd (none b v)

    back : (b : ℕ) → (◌≡◌ {A = Option BaseType} (Some ty) (Some Void)) × (b ≡ at) → HasAt IsVoidWord (record { at = at; kind = k } ∷ ws) b
    back b (v, a) = inl (type_void k ty q v, a)

struct_first : (at : ℕ) (ws : List Word) (o : Option BaseType) (t : TypeWords) → (o ≡ Some Void → ⊥)
    → IsKept ws (record { at = at; ty = o }) t → Says ws t
struct_first at ws o t n (inr e) = says_more e
struct_first at ws o t n (inl (e, f, none)) =
    says_one (record { at = at; ty = o }) e f (λ b. (λ v. absurd (none b v), λ q. absurd (n q.0)))

never_says : (tags : Tags) (s : Specified) (xs : List Spec) → s.types.lones ≡ Never → Says (words_from xs) (specified_from tags s xs).types
never_says tags s [] e = says_none e (λ at h. h)
never_says tags s (struct_spec spot (identifier at n) ∷ xs) e =
    let o = struct_type (tag_state n tags) in
    struct_first spot.index (words_from xs) o (specified_from tags (with_spec tags s (struct_spec spot (identifier at n))) xs).types
    (no_void (tag_state n tags))
    (once_kept tags (with_spec tags s (struct_spec spot (identifier at n))) xs (record { at = spot.index; ty = o }) (ap again e) refl)
never_says tags s (word_spec spot k ∷ xs) e =
    by (lone_type k) refl (λ a. never_says tags (with_spec tags s (word_spec spot k)) xs a)
  where
    next : Specified
    next = with_spec tags s (word_spec spot k)

    by : (o : Option BaseType) → lone_type k ≡ o
        → (next.types.lones ≡ Never → Says (words_from xs) (specified_from tags next xs).types)
        → Says (words_from (word_spec spot k ∷ xs)) (specified_from tags next xs).types
    by None q go =
        says_past spot.index k (words_from xs) (specified_from tags next xs).types (no_lone k q)
        (go (ap (λ o. (with_word_as o s.types spot.index k).lones) q ∙ e))
    by (Some ty) q go =
        lone_first spot.index k (words_from xs) ty (specified_from tags next xs).types q
        (once_kept tags next xs (record { at = spot.index; ty = Some ty })
        (ap (λ o. (with_word_as o s.types spot.index k).lones) q ∙ ap again e)
        (ap (λ o. (with_word_as o s.types spot.index k).lone) q))

-- ---- the word that is told

-- a token is told where there is one
abbrev pub IsTheToken : Option ℕ → (at : ℕ) → Type 0
IsTheToken None at = ⊥
IsTheToken (Some t) at = at ≡ t

void_of_numbers : (o : Option Arithmetic) (alone : Option Lone) (at : ℕ) → IsTheToken (at_void (option_map Number o) alone) at → ⊥
void_of_numbers None alone at h = h
void_of_numbers (Some a) None at h = h
void_of_numbers (Some a) (Some l) at h = h

void_of_one : (none : Bool) (at : ℕ) (ty : Option BaseType) (b : ℕ)
    → IsTheToken (at_void (if none then ty else None) (Some (record { at = at; ty = ty }))) b
    ↔ (((if none then ty else None) ≡ Some Void) × (ty ≡ Some Void) × (b ≡ at))
void_of_one false at ty b = (λ h. absurd h, λ q. let e : ◌≡◌ {A = Option BaseType} None (Some Void) = q.0 in cc)
void_of_one true at None b = (λ h. absurd h, λ q. let e : ◌≡◌ {A = Option BaseType} None (Some Void) = q.1 in cc)
void_of_one true at (Some Void) b = (λ h. (refl, refl, h), λ q. q.2)
void_of_one true at (Some (Number a)) b = (λ h. absurd h, λ q. let e : ◌≡◌ {A = Option BaseType} (Some (Number a)) (Some Void) = q.1 in cc)
void_of_one true at (Some (Struct i)) b = (λ h. absurd h, λ q. let e : ◌≡◌ {A = Option BaseType} (Some (Struct i)) (Some Void) = q.1 in cc)

-- of words that say so
void_by : (ws : List Word) (words : Words) (lones : Times) (alone : Option Lone) (b : ℕ)
    → Says ws (record { words = words; lones = lones; lone = alone })
    → IsTheToken (at_void (base_by lones words alone) alone) b ↔ ((base_by lones words alone ≡ Some Void) × HasAt IsVoidWord ws b)
void_by ws words Never alone b (says_none e h) = (λ t. absurd (void_of_numbers (number_type words) alone b t), λ q. absurd (h b q.1))
void_by ws words Never alone b (says_one l e f h) = let q : ◌≡◌ {A = Times} Never Once = e in cc
void_by ws words Never alone b (says_more e) = let q : ◌≡◌ {A = Times} Never Often = e in cc
void_by ws words Once alone b (says_none e h) = let q : ◌≡◌ {A = Times} Once Never = e in cc
void_by ws words Once None b (says_one l e f h) = let q : ◌≡◌ {A = Option Lone} None (Some l) = f in cc
void_by ws words Once (Some m) b (says_one l e f h) =
    let same : m ≡ l = some_same f in
    let v = void_of_one (are_none words) m.at m.ty b in (
      λ t. let q = v.0 t in (q.0, (h b).1 (ap (λ x. x.ty) (sym same) ∙ q.1, q.2 ∙ ap (λ x. x.at) same)),
      λ q. let t = (h b).0 q.1 in v.1 (q.0, ap (λ x. x.ty) same ∙ t.0, t.1 ∙ ap (λ x. x.at) (sym same)),
    )
  where
    some_same : ◌≡◌ {A = Option Lone} (Some m) (Some l) → m ≡ l
    some_same q = cc
void_by ws words Once alone b (says_more e) = let q : ◌≡◌ {A = Times} Once Often = e in cc
void_by ws words Often alone b s = (often alone, λ q. let e : ◌≡◌ {A = Option BaseType} None (Some Void) = q.0 in cc)
  where
    often : (alone : Option Lone) → IsTheToken (at_void (base_by Often words alone) alone) b
        → (base_by Often words alone ≡ Some Void) × HasAt IsVoidWord ws b
    often None h = absurd h
    often (Some l) h = absurd h

pub void_is : (tags : Tags) (ss : Specs) (b : ℕ) → IsTheToken (void_at (specified tags ss).types) b ↔ SaysVoid tags ss b
void_is tags (specs first more) b =
    let t = (specified tags (specs first more)).types in
    let named = name_told tags (specs first more) void in
    let h = void_by (words_from (first ∷ more)) t.words t.lones t.lone b (never_says tags nothing_said (first ∷ more) refl) in (
      λ q. let v = h.0 q in (named.0 (ap (option_map base_type) v.0), v.1),
      λ v. h.1 (void_names (base_of t) (named.1 v.0), v.1),
    )

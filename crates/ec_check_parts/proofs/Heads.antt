-- What is told of specifiers and stars before a name breaks a constraint there, and the other way round.
use Rattle.std.proofs.Common.{◌≡◌, ℕ, Bool, true, false, List, [], ◌∷◌, refl, inl, inr}
use Rattle.std.specs.Prelude.{◌⊎◌, ◌↔◌, is_some, Option, Some, None}
use Rattle.std.specs.Bool.{Decides}
use Rattle.std.proofs.lemmas.Bool.{false≢true, not-true, not_from_false}
use Rattle.ec_space.specs.declared.space.SpaceId.{SpaceId}
use Rattle.ec_grammar.specs.declared.Qualifier.{Qualifier}
use Rattle.ec_grammar.specs.declared.token.WordKind.{WordKind}
use Rattle.ec_grammar.specs.Trees.{Spec, word_spec, struct_spec, Specs, specs, Star, star, identifier}
use Rattle.ec_check_operands.specs.declared.faults.Fault.{Fault}
use Rattle.ec_check_operands.specs.Faults.{Judgement}
use Rattle.ec_check_operands.specs.Laws.{IsTold}
use Rattle.ec_check_names.specs.declared.qualifiers.Qualities.{Qualities}
use Rattle.ec_check_names.specs.declared.qualifiers.SpaceWord.{SpaceWord}
use Rattle.ec_check_names.specs.declared.specifiers.Specified.{Specified}
use Rattle.ec_check_names.specs.Qualifiers.{space_word, first_space, with_quality, qualities_from, qualities_of, unqualified}
use Rattle.ec_check_names.specs.Qualifiers.{own_space_rules}
use Rattle.ec_check_names.specs.Specifiers.{specified, specified_from, with_spec, nothing_said, void_at}
use Rattle.ec_check_names.specs.Stars.{Declared, declared_by, behind, pointer_to, star_rules}
use Rattle.ec_check_names.specs.Tags.{Tags}
use Rattle.ec_check_expressions.specs.TypeNames.{void_rules}
use Rattle.ec_check_declarations.specs.Declarators.{head_of, head_rules, misused_in_result}
use Rattle.ec_check_parts.specs.Words.{Word, words_from, words_among, words_of, own_words, IsSpaceWord, HasFirstAt}
use Rattle.ec_check_parts.specs.Specifiers.{BreakQualifiers}
use Rattle.ec_check_parts.specs.Heads.{Role, file_object, block_object, member, register_object, parameter, result, type_name}
use Rattle.ec_check_parts.specs.Heads.{MayHaveSpace, SaysVoid, MayBeVoid, BreakStars, BreakHead, stars_qualified, misplaced_space}
use Rattle.ec_check_parts.specs.Heads.{misused_void}
use Rattle.ec_check_parts.specs.Laws.{Tell, HeadsAreJudged}
use Rattle.ec_check_parts.proofs.Qualifiers.{qualifiers_judged}
use Rattle.ec_check_parts.proofs.Tests.{space_told}
use Rattle.ec_check_parts.proofs.Voids.{IsTheToken, void_is}

-- ---- stars

pub stars_judged : (stars : List Star) → Tell (star_rules stars) (BreakStars stars)
stars_judged [] rest f = (λ h. inr h, back)
  where
    back : ⊥ ⊎ IsTold rest f → IsTold rest f
    back (inl h) = absurd h
    back (inr h) = h
stars_judged (star spot qs ∷ more) rest f =
    let here = qualifiers_judged qs (star_rules more rest) f in
    let there = stars_judged more rest f in
    (λ h. ahead there.0 (here.0 h), λ h. here.1 (behind there.1 h))
  where
    ahead : (IsTold (star_rules more rest) f → BreakStars more f ⊎ IsTold rest f)
        → BreakQualifiers (words_of qs) f ⊎ IsTold (star_rules more rest) f → BreakStars (star spot qs ∷ more) f ⊎ IsTold rest f
    ahead go (inl b) = inl (inl b)
    ahead go (inr t) = one (go t)
      where
        one : BreakStars more f ⊎ IsTold rest f → BreakStars (star spot qs ∷ more) f ⊎ IsTold rest f
        one (inl b) = inl (inr b)
        one (inr t) = inr t

    behind : (BreakStars more f ⊎ IsTold rest f → IsTold (star_rules more rest) f)
        → BreakStars (star spot qs ∷ more) f ⊎ IsTold rest f → BreakQualifiers (words_of qs) f ⊎ IsTold (star_rules more rest) f
    behind go (inl (inl b)) = inl b
    behind go (inl (inr b)) = inr (go (inl b))
    behind go (inr t) = inr (go (inr t))

-- ---- the first space

abbrev pub IsThere : Option SpaceWord → (at : ℕ) → Type 0
IsThere None at = ⊥
IsThere (Some s) at = at ≡ s.at

-- the first space of some words, where those before told one or none
abbrev IsFirst : Option SpaceWord → List Word → (at : ℕ) → Type 0
IsFirst None ws at = HasFirstAt IsSpaceWord ws at
IsFirst (Some s) ws at = at ≡ s.at

abbrev AreFirst : (before after : Option SpaceWord) → List Word → Type 0
AreFirst before after ws = (at : ℕ) → IsThere after at ↔ IsFirst before ws at

first_nothing : (o : Option SpaceWord) → AreFirst o o []
first_nothing None at = (λ h. h, λ h. h)
first_nothing (Some s) at = (λ h. h, λ h. h)

first_step : (before after : Option SpaceWord) (t : ℕ) (k : WordKind) (ws : List Word)
    → AreFirst (first_space before t (space_word k)) after ws → AreFirst before after (record { at = t; kind = k } ∷ ws)
first_step (Some s) after t k ws h at = h at
first_step None after t k ws h at = by (space_word k) (space_told k) (h at)
  where
    by : (o : Option SpaceId) → Decides (is_some o) (IsSpaceWord k) → IsThere after at ↔ IsFirst (first_space None t o) ws at
        → IsThere after at ↔ HasFirstAt IsSpaceWord (record { at = t; kind = k } ∷ ws) at
    by None d g = (λ a. inr (λ p. false≢true (d.1 p), g.0 a), back)
      where
        back : HasFirstAt IsSpaceWord (record { at = t; kind = k } ∷ ws) at → IsThere after at
        back (inl (p, e)) = absurd (false≢true (d.1 p))
        back (inr (n, h)) = g.1 h
    by (Some x) d g = (λ a. inl (d.0 refl, g.0 a), back)
      where
        back : HasFirstAt IsSpaceWord (record { at = t; kind = k } ∷ ws) at → IsThere after at
        back (inl (p, e)) = g.1 e
        back (inr (n, h)) = absurd (n (d.0 refl))

first_of_specs : (tags : Tags) (s : Specified) (xs : List Spec)
    → AreFirst s.qualities.space (specified_from tags s xs).qualities.space (words_from xs)
first_of_specs tags s [] = first_nothing s.qualities.space
first_of_specs tags s (struct_spec spot (identifier at n) ∷ xs) =
    first_of_specs tags (with_spec tags s (struct_spec spot (identifier at n))) xs
first_of_specs tags s (word_spec spot k ∷ xs) =
    first_step s.qualities.space (specified_from tags (with_spec tags s (word_spec spot k)) xs).qualities.space spot.index k (words_from xs)
    (first_of_specs tags (with_spec tags s (word_spec spot k)) xs)

first_of_star : (q : Qualities) (qs : List Qualifier) → AreFirst q.space (qualities_from q qs).space (words_of qs)
first_of_star q [] = first_nothing q.space
first_of_star q (x ∷ xs) =
    first_step q.space (qualities_from (with_quality q x.spot.index x.word) xs).space x.spot.index x.word (words_of xs)
    (first_of_star (with_quality q x.spot.index x.word) xs)

own_space : (d : Declared) (ws : List Word) (stars : List Star) → AreFirst None d.qualities.space ws
    → AreFirst None (behind d stars).qualities.space (own_words ws stars)
own_space d ws [] h = h
own_space d ws (star spot qs ∷ more) h =
    own_space (record { ty = pointer_to d; qualities = qualities_of qs }) (words_of qs) more (first_of_star unqualified qs)

pub space_is : (tags : Tags) (ss : Specs) (stars : List Star)
    → AreFirst None (head_of (specified tags ss) stars).qualities.space (own_words (words_among ss) stars)
space_is tags (specs first more) stars =
    own_space (declared_by (specified tags (specs first more))) (words_from (first ∷ more)) stars
    (first_of_specs tags nothing_said (first ∷ more))

-- ---- one rule

own_told : (may : Bool) (o : Option SpaceWord) (rest : List Judgement) (f : Fault)
    → IsTold (own_space_rules may o rest) f ↔ (((f.rule ≡ 3) × (may ≡ false) × IsThere o f.at) ⊎ IsTold rest f)
own_told may None rest f = (λ h. inr h, back)
  where
    back : ((f.rule ≡ 3) × (may ≡ false) × ⊥) ⊎ IsTold rest f → IsTold rest f
    back (inl (r, m, h)) = absurd h
    back (inr h) = h
own_told may (Some s) rest f = (there, back)
  where
    there : IsTold (own_space_rules may (Some s) rest) f → ((f.rule ≡ 3) × (may ≡ false) × (f.at ≡ s.at)) ⊎ IsTold rest f
    there (inl (b, a, r)) = inl (r, not-true may b, a)
    there (inr h) = inr h

    back : ((f.rule ≡ 3) × (may ≡ false) × (f.at ≡ s.at)) ⊎ IsTold rest f → IsTold (own_space_rules may (Some s) rest) f
    back (inl (r, m, a)) = inl (not_from_false may m, a, r)
    back (inr h) = inr h

void_told : (o : Option ℕ) (rest : List Judgement) (f : Fault)
    → IsTold (void_rules o rest) f ↔ (((f.rule ≡ 7) × IsTheToken o f.at) ⊎ IsTold rest f)
void_told None rest f = (λ h. inr h, back)
  where
    back : ((f.rule ≡ 7) × ⊥) ⊎ IsTold rest f → IsTold rest f
    back (inl (r, h)) = absurd h
    back (inr h) = h
void_told (Some t) rest f = (there, back)
  where
    there : IsTold (void_rules (Some t) rest) f → ((f.rule ≡ 7) × (f.at ≡ t)) ⊎ IsTold rest f
    there (inl (b, a, r)) = inl (r, a)
    there (inr h) = inr h

    back : ((f.rule ≡ 7) × (f.at ≡ t)) ⊎ IsTold rest f → IsTold (void_rules (Some t) rest) f
    back (inl (r, a)) = inl (refl, a, r)
    back (inr h) = inr h

-- ---- heads

-- what is told where a space may stand or not, and `void` is misused there or not
data AreTold (may : Bool) (misused : Option ℕ) (ss : Specs) (stars : List Star) (f : Fault) : Type 0 where
  in_star : BreakStars stars f → AreTold may misused ss stars f
  space : f.rule ≡ 3 → may ≡ false → HasFirstAt IsSpaceWord (own_words (words_among ss) stars) f.at → AreTold may misused ss stars f
  void : f.rule ≡ 7 → IsTheToken misused f.at → AreTold may misused ss stars f

module _ (tags : Tags) (ss : Specs) (stars : List Star) (f : Fault) where
  head_told : (may : Bool) (misused : Option ℕ) → IsTold (head_rules may misused (specified tags ss) stars) f
      → AreTold may misused ss stars f
  head_told may misused h =
      let o = (head_of (specified tags ss) stars).qualities.space in
      from_stars ((stars_judged stars (own_space_rules may o (void_rules misused [])) f).0 h)
    where
      from_void : ((f.rule ≡ 7) × IsTheToken misused f.at) ⊎ ⊥ → AreTold may misused ss stars f
      from_void (inl (r, v)) = void r v
      from_void (inr h) = absurd h

      from_space : ((f.rule ≡ 3) × (may ≡ false) × IsThere (head_of (specified tags ss) stars).qualities.space f.at)
          ⊎ IsTold (void_rules misused []) f → AreTold may misused ss stars f
      from_space (inl (r, m, t)) = space r m ((space_is tags ss stars f.at).0 t)
      from_space (inr h) = from_void ((void_told misused [] f).0 h)

      from_stars : BreakStars stars f
          ⊎ IsTold (own_space_rules may (head_of (specified tags ss) stars).qualities.space (void_rules misused [])) f
          → AreTold may misused ss stars f
      from_stars (inl b) = in_star b
      from_stars (inr h) = from_space ((own_told may (head_of (specified tags ss) stars).qualities.space (void_rules misused []) f).0 h)

  told_head : (may : Bool) (misused : Option ℕ) → AreTold may misused ss stars f
      → IsTold (head_rules may misused (specified tags ss) stars) f
  told_head may misused (in_star b) =
      let o = (head_of (specified tags ss) stars).qualities.space in
      (stars_judged stars (own_space_rules may o (void_rules misused [])) f).1 (inl b)
  told_head may misused (space r m h) =
      let o = (head_of (specified tags ss) stars).qualities.space in
      (stars_judged stars (own_space_rules may o (void_rules misused [])) f).1
      (inr ((own_told may o (void_rules misused []) f).1 (inl (r, m, (space_is tags ss stars f.at).1 h))))
  told_head may misused (void r v) =
      let o = (head_of (specified tags ss) stars).qualities.space in
      (stars_judged stars (own_space_rules may o (void_rules misused [])) f).1
      (inr ((own_told may o (void_rules misused []) f).1 (inr ((void_told misused [] f).1 (inl (r, v))))))

  -- in a role that may have a space or not, where what is misused is `void` that is said
  in_role : (role : Role) (may : Bool) (misused : Option ℕ) → Decides may (MayHaveSpace role)
      → IsTheToken misused f.at ↔ ((¬ MayBeVoid role stars) × SaysVoid tags ss f.at)
      → IsTold (head_rules may misused (specified tags ss) stars) f ↔ BreakHead tags role ss stars f
  in_role role may misused d v = (λ h. there (head_told may misused h), λ h. told_head may misused (back may d h))
    where
      there : AreTold may misused ss stars f → BreakHead tags role ss stars f
      there (in_star b) = stars_qualified b
      there (space r m h) = misplaced_space r (λ p. allowed may d m p) h
        where
          allowed : (b : Bool) → Decides b (MayHaveSpace role) → b ≡ false → MayHaveSpace role → ⊥
          allowed true d e p = false≢true (let q : true ≡ false = e in cc)
          allowed false d e p = false≢true (d.1 p)
      there (void r t) = let q = v.0 t in misused_void r q.0 q.1

      back : (b : Bool) → Decides b (MayHaveSpace role) → BreakHead tags role ss stars f → AreTold b misused ss stars f
      back b d (stars_qualified s) = in_star s
      back true d (misplaced_space r n h) = absurd (n (d.0 refl))
      back false d (misplaced_space r n h) = space r refl h
      back b d (misused_void r n s) = void r (v.1 (n, s))

-- where nothing may be void
nowhere : (tags : Tags) (ss : Specs) (at : ℕ)
    → IsTheToken (void_at (specified tags ss).types) at ↔ ((¬ ⊥) × SaysVoid tags ss at)
nowhere tags ss at = let v = void_is tags ss at in (λ h. ((λ q. q), v.0 h), λ q. v.1 q.1)

in_result : (tags : Tags) (ss : Specs) (stars : List Star) (at : ℕ)
    → IsTheToken (misused_in_result (void_at (specified tags ss).types) stars) at ↔ ((¬ MayBeVoid result stars) × SaysVoid tags ss at)
in_result tags ss [] at = (λ h. absurd h, λ q. absurd (q.0 tt))
in_result tags ss (s ∷ stars) at = nowhere tags ss at

yes : Decides true (MayHaveSpace file_object)
yes = (λ e. tt, λ h. refl)

no : Decides false ⊥
no = (λ e. absurd (false≢true e), λ h. absurd h)

pub heads_are_judged : HeadsAreJudged
heads_are_judged tags file_object ss stars f =
    in_role tags ss stars f file_object true (void_at (specified tags ss).types) yes (nowhere tags ss f.at)
heads_are_judged tags block_object ss stars f =
    in_role tags ss stars f block_object false (void_at (specified tags ss).types) no (nowhere tags ss f.at)
heads_are_judged tags member ss stars f =
    in_role tags ss stars f member false (void_at (specified tags ss).types) no (nowhere tags ss f.at)
heads_are_judged tags register_object ss stars f =
    in_role tags ss stars f register_object false (void_at (specified tags ss).types) no (nowhere tags ss f.at)
heads_are_judged tags parameter ss stars f =
    in_role tags ss stars f parameter false (void_at (specified tags ss).types) no (nowhere tags ss f.at)
heads_are_judged tags result ss stars f =
    in_role tags ss stars f result false (misused_in_result (void_at (specified tags ss).types) stars) no (in_result tags ss stars f.at)
heads_are_judged tags type_name ss stars f =
    (λ h. there ((stars_judged stars (void_rules at []) f).0 h), λ h. (stars_judged stars (void_rules at []) f).1 (back h))
  where
    at : Option ℕ
    at = void_at (specified tags ss).types

    from_void : ((f.rule ≡ 7) × IsTheToken at f.at) ⊎ ⊥ → BreakHead tags type_name ss stars f
    from_void (inl (r, v)) = misused_void r (λ q. q) ((void_is tags ss f.at).0 v)
    from_void (inr h) = absurd h

    there : BreakStars stars f ⊎ IsTold (void_rules at []) f → BreakHead tags type_name ss stars f
    there (inl b) = stars_qualified b
    there (inr h) = from_void ((void_told at [] f).0 h)

    back : BreakHead tags type_name ss stars f → BreakStars stars f ⊎ IsTold (void_rules at []) f
    back (stars_qualified b) = inl b
    back (misplaced_space r n h) = absurd (n tt)
    back (misused_void r n s) = inr ((void_told at [] f).1 (inl (r, (void_is tags ss f.at).1 s)))

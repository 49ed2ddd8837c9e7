-- What is told in expressions, and of their values, breaks a constraint there, and the other way round.
use Rattle.std.proofs.Common.{◌≡◌, ℕ, Bool, true, false, List, [], ◌∷◌, refl, sym, subst, inl, inr}
use Rattle.std.specs.Prelude.{◌⊎◌, ◌↔◌, ◌≢◌, if◌then◌else◌, Option, Some, None}
use Rattle.std.specs.Bool.{Decides}
use Rattle.std.proofs.lemmas.Bool.{false≢true}
use Rattle.ec_grammar.specs.Trees as t
use Rattle.ec_core.specs.Laws.{TypesAreTold}
use Rattle.ec_core.specs.Plain.{PlainType, void}
use Rattle.ec_check_operands.specs.declared.faults.Fault.{Fault}
use Rattle.ec_check_operands.specs.Faults.{Judgement}
use Rattle.ec_check_operands.specs.Laws.{IsTold}
use Rattle.ec_check_operands.specs.Operands.{Operand, value_type}
use Rattle.ec_check_operands.specs.Passing.{passing_rules}
use Rattle.ec_check_operands.specs.Sorts.{is_void}
use Rattle.ec_check_forms.specs.Constraints.{IsKnownAnd}
use Rattle.ec_check_forms.specs.Nodes.{used, use_rules}
use Rattle.ec_check_forms.specs.Sites.{a_use}
use Rattle.ec_check_forms.proofs.Decided.{voids, void_used_told, passing_told, out_of_space_told, out_of_const_told}
use Rattle.ec_check_names.specs.Firsts.{first_conditional}
use Rattle.ec_check_names.specs.Tags.{Tags}
use Rattle.ec_check_expressions.specs.Expressions.{of_expression, of_assignment, of_conditional}
use Rattle.ec_check_expressions.specs.Expressions.{expression_sites, assignment_sites, conditional_sites}
use Rattle.ec_check_expressions.specs.Known.{Known}
use Rattle.ec_check_expressions.specs.Sites.{Site, on, a_type_name, rules_at}
use Rattle.ec_check_expressions.specs.TypeNames.{type_name_rules, void_said, void_rules}
use Rattle.ec_check_names.specs.Specifiers.{specified, void_at}
use Rattle.ec_check_names.specs.Stars.{star_rules}
use Rattle.ec_check_meanings.specs.Laws.{StandsIn, WalkGivesMeanings, SitesAreJudged, ConstraintsAreTold}
use Rattle.ec_check_meanings.specs.Means.{Means, Uses, not_void}
use Rattle.ec_check_meanings.specs.Sites.{SiteIn}
use Rattle.ec_check_meanings.specs.Terms.{Term, term_of_expression, term_of_assignment, term_of_conditional}
use Rattle.ec_check_parts.specs.Specifiers.{BreakSpecifiers}
use Rattle.ec_check_parts.specs.Heads.{type_name}
use Rattle.ec_check_parts.specs.Expressions.{BreakTypeName, BreakTerm, constraint, in_type_name, BreakUsed, in_term, void_used}
use Rattle.ec_check_parts.specs.Expressions.{BreakPassing, between_kinds, out_of_space, out_of_const}
use Rattle.ec_check_parts.proofs.Specifiers.{specifiers_are_judged}
use Rattle.ec_check_parts.proofs.Heads.{heads_are_judged}
use Rattle.ec_check_parts.proofs.Nested.{IsToldIn}

-- what is known of expressions and of types
pub record ExpressionLaws : Type 0 where
  pub meanings : WalkGivesMeanings
  pub sites : SitesAreJudged
  pub constraints : ConstraintsAreTold
  pub types : TypesAreTold

-- ---- places

told_at : (xs : List Site) (f : Fault) → IsToldIn xs f → (s : Site) × StandsIn s xs × IsTold (rules_at s) f
told_at [] f h = absurd h
told_at (x ∷ xs) f (inl t) = (x, inl refl, t)
told_at (x ∷ xs) f (inr h) = let g = told_at xs f h in (g.0, inr g.1, g.2)

stands_told : (xs : List Site) (f : Fault) (s : Site) → StandsIn s xs → IsTold (rules_at s) f → IsToldIn xs f
stands_told [] f s h t = absurd h
stands_told (x ∷ xs) f s (inl e) t = inl (subst (λ z. IsTold (rules_at z) f) e t)
stands_told (x ∷ xs) f s (inr h) t = inr (stands_told xs f s h t)

-- ---- type names

module _ (tags : Tags) (ss : t.Specs) (stars : List t.Star) (f : Fault) where
  -- the rules behind those of the specifiers
  abbrev stars_and_void : List Judgement
  stars_and_void = star_rules stars (void_rules (void_at (specified tags ss).types) [])

  words_told : IsTold (type_name_rules tags (t.type_name ss stars) []) f ↔ (BreakSpecifiers tags false ss f ⊎ IsTold stars_and_void f)
  unfolding type_name_rules void_said
  words_told = specifiers_are_judged.specifiers tags false ss stars_and_void f

  name_there : BreakSpecifiers tags false ss f ⊎ IsTold stars_and_void f → BreakTypeName tags (t.type_name ss stars) f
  name_there (inl b) = inl b
  name_there (inr h) = inr ((heads_are_judged tags type_name ss stars f).0 h)

  name_back : BreakTypeName tags (t.type_name ss stars) f → BreakSpecifiers tags false ss f ⊎ IsTold stars_and_void f
  name_back (inl b) = inl b
  name_back (inr b) = inr ((heads_are_judged tags type_name ss stars f).1 b)

  name_told : IsTold (type_name_rules tags (t.type_name ss stars) []) f ↔ BreakTypeName tags (t.type_name ss stars) f
  name_told = (λ h. name_there (words_told.0 h), λ b. words_told.1 (name_back b))

type_name_told : (tags : Tags) (n : t.TypeName) (f : Fault) → IsTold (type_name_rules tags n []) f ↔ BreakTypeName tags n f
type_name_told tags (t.type_name ss stars) f = name_told tags ss stars f

-- ---- expressions

module _ (laws : ExpressionLaws) (k : Known) (e : t.Expression) (f : Fault) where
  abbrev x : Term
  x = term_of_expression e

  site_breaks : (s : Site) → SiteIn k x s → IsTold (rules_at s) f → BreakTerm k x f
  site_breaks (on o) i h = constraint ((laws.constraints k e f).0 (o, ((laws.sites k).expressions e [] (on o)).1 (inl i), h))
  site_breaks (a_type_name tags n) i h = in_type_name tags n i ((type_name_told tags n f).0 h)

  breaks_site : BreakTerm k x f → (s : Site) × SiteIn k x s × IsTold (rules_at s) f
  breaks_site (constraint b) = let g = (laws.constraints k e f).1 b in (on g.0, here (on g.0) g.1, g.2)
    where
      sort : (s : Site) → SiteIn k x s ⊎ StandsIn s [] → SiteIn k x s
      sort s (inl i) = i
      sort s (inr h) = absurd h

      here : (s : Site) → StandsIn s (expression_sites k e []) → SiteIn k x s
      here s h = sort s (((laws.sites k).expressions e [] s).0 h)
  breaks_site (in_type_name tags n i b) = (a_type_name tags n, i, (type_name_told tags n f).1 b)

  sites_told : (sites : List Site → List Site)
      → ((rest : List Site) (s : Site) → StandsIn s (sites rest) ↔ (SiteIn k x s ⊎ StandsIn s rest)) → (rest : List Site)
      → IsToldIn (sites rest) f ↔ (BreakTerm k x f ⊎ IsToldIn rest f)
  sites_told sites law rest = (there, back)
    where
      by : (s : Site) → IsTold (rules_at s) f → SiteIn k x s ⊎ StandsIn s rest → BreakTerm k x f ⊎ IsToldIn rest f
      by s h (inl i) = inl (site_breaks s i h)
      by s h (inr i) = inr (stands_told rest f s i h)

      there : IsToldIn (sites rest) f → BreakTerm k x f ⊎ IsToldIn rest f
      there h = let g = told_at (sites rest) f h in by g.0 g.2 ((law rest g.0).0 g.1)

      back : BreakTerm k x f ⊎ IsToldIn rest f → IsToldIn (sites rest) f
      back (inl b) = let g = breaks_site b in stands_told (sites rest) f g.0 ((law rest g.0).1 (inl g.1)) g.2
      back (inr h) = let g = told_at rest f h in stands_told (sites rest) f g.0 ((law rest g.0).1 (inr g.1)) g.2

module _ (laws : ExpressionLaws) (k : Known) where
  pub expression_told : (e : t.Expression) (rest : List Site) (f : Fault)
      → IsToldIn (expression_sites k e rest) f ↔ (BreakTerm k (term_of_expression e) f ⊎ IsToldIn rest f)
  expression_told e rest f = sites_told laws k e f (expression_sites k e) (λ rest s. (laws.sites k).expressions e rest s) rest

  pub assignment_told : (a : t.Assignment) (rest : List Site) (f : Fault)
      → IsToldIn (assignment_sites k a rest) f ↔ (BreakTerm k (term_of_assignment a) f ⊎ IsToldIn rest f)
  assignment_told a rest f =
      sites_told laws k (t.single a) f (assignment_sites k a) (λ rest s. (laws.sites k).assignments a rest s) rest

  conditional_told : (c : t.Conditional) (rest : List Site) (f : Fault)
      → IsToldIn (conditional_sites k c rest) f ↔ (BreakTerm k (term_of_conditional c) f ⊎ IsToldIn rest f)
  conditional_told c rest f =
      sites_told laws k (t.single (t.value c)) f (conditional_sites k c) (λ rest s. (laws.sites k).conditionals c rest s) rest

-- ---- what is meant

-- nothing is not something
pub no_some : {X : Type 0} → (x : X) → ◌≡◌ {A = Option X} None (Some x) → ⊥
no_some x e = cc

pub same_some : {X : Type 0} → (x y : X) → ◌≡◌ {A = Option X} (Some x) (Some y) → x ≡ y
same_some x y e = cc

-- an operand that is so, where it is known
pub known_and : (m : Option Operand) (P : PlainType → Type 0)
    → IsKnownAnd m P ↔ ((o : Operand) × (m ≡ Some o) × P (value_type o))
known_and None P = (λ h. absurd h, λ h. absurd (no_some h.0 h.1))
known_and (Some x) P = (λ h. (x, refl, h), λ h. subst (λ z. P (value_type z)) (sym (same_some x h.0 h.1)) h.2)

used_is : (m : Option Operand) (o : Operand) → used m ≡ Some o ↔ ((m ≡ Some o) × (value_type o ≢ void))
used_is None o = (λ e. absurd (no_some o e), λ h. absurd (no_some o h.0))
used_is (Some x) o = by (is_void (value_type x)) (voids (value_type x))
  where
    by : (b : Bool) → Decides b (value_type x ≡ void)
        → (if b then None else Some x) ≡ Some o ↔ ((Some x ≡ Some o) × (value_type o ≢ void))
    by true d = (
      λ e. absurd (no_some o e),
      λ h. absurd (h.1 (subst (λ z. value_type z ≡ void) (same_some x o h.0) (d.0 refl))),
    )
    by false d =
        (λ e. (e, λ v. false≢true (d.1 (subst (λ z. value_type z ≡ void) (sym (same_some x o e)) v))), λ h. h.0)

-- ---- values

module _ (k : Known) (x : Term) (m : Option Operand) (meant : (o : Operand) → Means k x o ↔ m ≡ Some o) where
  pub uses_is : (o : Operand) → Uses k x o ↔ used m ≡ Some o
  uses_is o = (there, λ e. let g = (used_is m o).0 e in not_void ((meant o).1 g.0) g.1)
    where
      there : Uses k x o → used m ≡ Some o
      there (not_void h n) = (used_is m o).1 ((meant o).0 h, n)

  pub used_told : (at : ℕ) (f : Fault) → BreakTerm k x f ⊎ (IsTold (use_rules m at) f ⊎ ⊥) ↔ BreakUsed k x at f
  used_told at f = (there, back)
    where
      there : BreakTerm k x f ⊎ (IsTold (use_rules m at) f ⊎ ⊥) → BreakUsed k x at f
      there (inl b) = in_term b
      there (inr (inl (inl (b, a, r)))) =
          let g = (known_and m (λ ty. ty ≡ void)).0 ((void_used_told m).0 b) in void_used r a g.0 ((meant g.0).1 g.1) g.2
      there (inr (inl (inr h))) = absurd h
      there (inr (inr h)) = absurd h

      back : BreakUsed k x at f → BreakTerm k x f ⊎ (IsTold (use_rules m at) f ⊎ ⊥)
      back (in_term b) = inl b
      back (void_used r a o h v) =
          inr (inl (inl ((void_used_told m).1 ((known_and m (λ ty. ty ≡ void)).1 (o, (meant o).0 h, v)), a, r)))

module _ (laws : ExpressionLaws) (k : Known) where
  pub means_expression : (e : t.Expression) (o : Operand) → Means k (term_of_expression e) o ↔ of_expression k e ≡ Some o
  means_expression e o = (laws.meanings k).expressions e o

  pub means_assignment : (a : t.Assignment) (o : Operand) → Means k (term_of_assignment a) o ↔ of_assignment k a ≡ Some o
  means_assignment a o = (laws.meanings k).assignments a o

  means_conditional : (c : t.Conditional) (o : Operand) → Means k (term_of_conditional c) o ↔ of_conditional k c ≡ Some o
  means_conditional c o = (laws.meanings k).conditionals c o

  pub uses_conditional : (c : t.Conditional) (o : Operand)
      → Uses k (term_of_conditional c) o ↔ used (of_conditional k c) ≡ Some o
  uses_conditional c o = uses_is k (term_of_conditional c) (of_conditional k c) (means_conditional c) o

  pub conditional_used : (c : t.Conditional) (f : Fault)
      → IsToldIn (conditional_sites k c (on (a_use (of_conditional k c) (first_conditional c)) ∷ [])) f
      ↔ BreakUsed k (term_of_conditional c) (first_conditional c) f
  conditional_used c f =
      let law = conditional_told laws k c (on (a_use (of_conditional k c) (first_conditional c)) ∷ []) f in
      let use_told = used_told k (term_of_conditional c) (of_conditional k c) (means_conditional c) (first_conditional c) f in
      (λ h. use_told.0 (law.0 h), λ b. law.1 (use_told.1 b))

-- ---- implicit conversion

-- an operand that is known is brought to a type that is known
abbrev pub IsPassing : Option Operand → Option PlainType → (at : ℕ) → Fault → Type 0
IsPassing m to at f = (o : Operand) × (m ≡ Some o) × (ty : PlainType) × (to ≡ Some ty) × BreakPassing o ty at f

passing_of : TypesAreTold → (x : Operand) (ty : PlainType) (at : ℕ) (f : Fault)
    → IsTold (passing_rules (Some x) (Some ty) at) f ↔ BreakPassing x ty at f
passing_of told x ty at f = (there, back)
  where
    there : IsTold (passing_rules (Some x) (Some ty) at) f → BreakPassing x ty at f
    there (inl (b, a, r)) = between_kinds r a ((passing_told told x ty).0 b)
    there (inr (inl (b, a, r))) = let g = (out_of_space_told told x ty).0 b in out_of_space r a g.0 g.1
    there (inr (inr (inl (b, a, r)))) = let g = (out_of_const_told told x ty).0 b in out_of_const r a g.0 g.1
    there (inr (inr (inr h))) = absurd h

    back : BreakPassing x ty at f → IsTold (passing_rules (Some x) (Some ty) at) f
    back (between_kinds r a n) = inl ((passing_told told x ty).1 n, a, r)
    back (out_of_space r a p l) = inr (inl ((out_of_space_told told x ty).1 (p, l), a, r))
    back (out_of_const r a p l) = inr (inr (inl ((out_of_const_told told x ty).1 (p, l), a, r)))

pub passing_is : TypesAreTold → (m : Option Operand) (to : Option PlainType) (at : ℕ) (f : Fault)
    → IsTold (passing_rules m to at) f ↔ IsPassing m to at f
passing_is told None to at f = (λ h. absurd h, λ h. absurd (no_some h.0 h.1))
passing_is told (Some x) None at f = (λ h. absurd h, λ h. absurd (no_some h.2 h.3))
passing_is told (Some x) (Some ty) at f = (λ h. (x, refl, ty, refl, (passing_of told x ty at f).0 h), back)
  where
    back : IsPassing (Some x) (Some ty) at f → IsTold (passing_rules (Some x) (Some ty) at) f
    back (o, e, u, q, b) =
        (passing_of told x ty at f).1
        (subst (λ z. BreakPassing z ty at f) (sym (same_some x o e)) (subst (λ z. BreakPassing o z at f) (sym (same_some ty u q)) b))

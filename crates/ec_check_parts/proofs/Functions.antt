-- What is told of parameters and results breaks a constraint there, and the other way round.
use Rattle.std.proofs.Common.{◌≡◌, ◌∙◌, ◌+◌, ℕ, zero, suc, Bool, true, false, ◌||◌, not, List, [], ◌∷◌, ◌++◌, take, drop, refl}
use Rattle.std.proofs.Common.{sym, ap, subst, inl, inr}
use Rattle.std.proofs.Common.{arith}
use Rattle.std.specs.Prelude.{◌⊎◌, ◌↔◌, ◌≢◌, Option, Some, None}
use Rattle.std.specs.Bool.{Decides}
use Rattle.std.proofs.lemmas.Bool.{false≢true}
use Rattle.std.proofs.lemmas.Bool.Decides.{Decides-at, Decides-like, Decides-not, Decides-or}
use Rattle.std.proofs.lemmas.Slice.Eq.{bytes_eq-Decides}
use Rattle.ec_grammar.specs.declared.Spot.{Spot}
use Rattle.ec_grammar.specs.Trees as t
use Rattle.ec_core.specs.Plain.{PlainType, void}
use Rattle.ec_check_operands.specs.declared.faults.Fault.{Fault}
use Rattle.ec_check_operands.specs.Faults.{rule}
use Rattle.ec_check_operands.specs.Laws.{IsTold}
use Rattle.ec_check_operands.specs.Sorts.{is_scalar, is_void}
use Rattle.ec_check_forms.specs.Constraints.{IsScalar}
use Rattle.ec_check_forms.proofs.Decided.{scalars, voids}
use Rattle.ec_check_names.specs.Specifiers.{specified, specs_rules, void_at}
use Rattle.ec_check_names.specs.Tags.{Tags}
use Rattle.ec_check_declarations.specs.Declarators.{head_of, head_rules, misused_in_result}
use Rattle.ec_check_declarations.specs.Functions.{is_no_result, function_sites}
use Rattle.ec_check_declarations.specs.Params.{is_no_scalar, param_at, has_name, is_name_of, is_nameless, is_misnamed}
use Rattle.ec_check_declarations.specs.Params.{param_rules, param_sites}
use Rattle.ec_check_declarations.specs.Params.{more_params_sites, params_sites}
use Rattle.ec_check_declarations.specs.Sites.{on}
use Rattle.ec_check_parts.specs.Specifiers.{BreakSpecifiers}
use Rattle.ec_check_parts.specs.Heads.{parameter, result, BreakHead}
use Rattle.ec_check_parts.specs.Functions.{HasName, IsNamed, IsMisnamed, BreakParam, param_specified, param_headed}
use Rattle.ec_check_parts.specs.Functions.{misnamed, no_parameter}
use Rattle.ec_check_parts.specs.Functions.{BreakParams, params_behind, params_in, BreakFunction, result_headed, no_result, in_params}
use Rattle.ec_check_parts.specs.Laws.{TellAt, FunctionsAreJudged}
use Rattle.ec_check_parts.proofs.Types.{type_said}
use Rattle.ec_check_parts.proofs.Specifiers.{specifiers_alone}
use Rattle.ec_check_parts.proofs.Heads.{heads_are_judged}
use Rattle.ec_check_parts.proofs.Joined.{nowhere, at_one, both, like}

-- ---- types

-- a type that is known and is so
abbrev IsKnown : (PlainType → Type 0) → Option PlainType → Type 0
IsKnown P o = (ty : PlainType) × (o ≡ Some ty) × P ty

no_type : (P : PlainType → Type 0) → Decides false (IsKnown P None)
no_type P = (λ e. absurd (false≢true e), λ h. absurd (none h.0 h.1))
  where
    none : (ty : PlainType) → ◌≡◌ {A = Option PlainType} None (Some ty) → ⊥
    none ty e = cc

a_type : (P : PlainType → Type 0) (ty : PlainType) (b : Bool) → Decides b (P ty) → Decides b (IsKnown P (Some ty))
a_type P ty b d = (λ e. (ty, refl, d.0 e), λ h. d.1 (subst P (sym (same h.0 h.1)) h.2))
  where
    same : (u : PlainType) → ◌≡◌ {A = Option PlainType} (Some ty) (Some u) → ty ≡ u
    same u e = cc

pub no_scalar_told : (o : Option PlainType) → Decides (is_no_scalar o) (IsKnown (λ ty. ¬ IsScalar ty) o)
no_scalar_told None = no_type (λ ty. ¬ IsScalar ty)
no_scalar_told (Some ty) = a_type (λ ty. ¬ IsScalar ty) ty (not (is_scalar ty)) (Decides-not (is_scalar ty) (scalars ty))

pub no_result_told : (o : Option PlainType) → Decides (is_no_result o) (IsKnown (λ ty. (¬ IsScalar ty) × (ty ≢ void)) o)
no_result_told None = no_type (λ ty. (¬ IsScalar ty) × (ty ≢ void))
no_result_told (Some ty) =
    a_type (λ ty. (¬ IsScalar ty) × (ty ≢ void)) ty (not (is_scalar ty || is_void ty))
    (Decides-like (not (is_scalar ty || is_void ty)) there back
    (Decides-not (is_scalar ty || is_void ty) (Decides-or (is_scalar ty) (is_void ty) (scalars ty) (voids ty))))
  where
    there : ¬ (IsScalar ty ⊎ (ty ≡ void)) → (¬ IsScalar ty) × (ty ≢ void)
    there n = (λ s. n (inl s), λ v. n (inr v))

    back : (¬ IsScalar ty) × (ty ≢ void) → ¬ (IsScalar ty ⊎ (ty ≡ void))
    back (n, m) (inl s) = n s
    back (n, m) (inr v) = m v

-- ---- names

name_told : (n : List ℕ) (p : t.Param) → Decides (has_name n p) (HasName n p)
name_told n (t.param ty None) = (λ e. absurd (false≢true e), λ h. absurd h)
name_told n (t.param ty (Some (t.identifier at m))) = bytes_eq-Decides m n

-- the names of the parameters before a place, as they are found
abbrev AreBefore : t.Param → List t.NextParam → List t.Param → Type 0
AreBefore first front before = (n : List ℕ) → Decides (has_name n first || is_name_of n front) (IsNamed n before)

name_behind : (n : List ℕ) (front : List t.NextParam) (comma : Spot) (p : t.Param)
    → is_name_of n (front ++ t.next_param comma p ∷ []) ≡ (is_name_of n front || has_name n p)
name_behind n [] comma p = by (has_name n p)
  where
    by : (b : Bool) → (b || false) ≡ b
    by true = refl
    by false = refl
name_behind n (t.next_param c q ∷ front) comma p =
    ap (λ b. has_name n q || b) (name_behind n front comma p) ∙ by (has_name n q)
  where
    by : (b : Bool) → (b || (is_name_of n front || has_name n p)) ≡ ((b || is_name_of n front) || has_name n p)
    by true = refl
    by false = refl

one_before : (first : t.Param) (front : List t.NextParam) (before : List t.Param) (comma : Spot) (p : t.Param)
    → AreBefore first front before
    → AreBefore first (front ++ t.next_param comma p ∷ []) (p ∷ before)
one_before first front before comma p h n =
    Decides-at (has_name n first || is_name_of n (front ++ t.next_param comma p ∷ []))
    ((has_name n first || is_name_of n front) || has_name n p)
    (ap (λ b. has_name n first || b) (name_behind n front comma p) ∙ by (has_name n first))
    (Decides-like ((has_name n first || is_name_of n front) || has_name n p) there back
    (Decides-or (has_name n first || is_name_of n front) (has_name n p) (h n) (name_told n p)))
  where
    by : (b : Bool) → (b || (is_name_of n front || has_name n p)) ≡ ((b || is_name_of n front) || has_name n p)
    by true = refl
    by false = refl

    there : IsNamed n before ⊎ HasName n p → IsNamed n (p ∷ before)
    there (inl h) = inr h
    there (inr h) = inl h

    back : IsNamed n (p ∷ before) → IsNamed n before ⊎ HasName n p
    back (inl h) = inr h
    back (inr h) = inl h

misnamed_told : (defined : Bool) (first : t.Param) (front : List t.NextParam) (before : List t.Param) (p : t.Param)
    → AreBefore first front before
    → Decides (is_misnamed defined first front p) (IsMisnamed defined before p)
misnamed_told defined first front before (t.param ty None) h = (λ e. e, λ e. e)
misnamed_told defined first front before (t.param ty (Some (t.identifier at n))) h = h n

nameless_told : (defined : Bool) (p : t.Param) → Decides (is_nameless defined p) (IsMisnamed defined [] p)
nameless_told defined (t.param ty None) = (λ e. e, λ e. e)
nameless_told defined (t.param ty (Some (t.identifier at n))) = (λ e. absurd (false≢true e), λ h. absurd h)

-- ---- one parameter

-- what is told of a name and of a type
abbrev BreakRules : (wrong : Type 0) → Option PlainType → (at : ℕ) → Fault → Type 0
BreakRules wrong o at f =
    ((f.rule ≡ 5) × (f.at ≡ at) × wrong) ⊎ ((f.rule ≡ 17) × (f.at ≡ at) × IsKnown (λ ty. ¬ IsScalar ty) o)

rules_judged : (wrong : Type 0) (b : Bool) (o : Option PlainType) (at : ℕ) → Decides b wrong → (f : Fault)
    → IsTold (param_rules b o at) f ↔ BreakRules wrong o at f
rules_judged wrong b o at d f = (there, back)
  where
    there : IsTold (param_rules b o at) f → BreakRules wrong o at f
    there (inl (e, a, r)) = inl (r, a, d.0 e)
    there (inr (inl (e, a, r))) = inr (r, a, (no_scalar_told o).0 e)
    there (inr (inr h)) = absurd h

    back : BreakRules wrong o at f → IsTold (param_rules b o at) f
    back (inl (r, a, w)) = inl (d.1 w, a, r)
    back (inr (r, a, k)) = inr (inl ((no_scalar_told o).1 k, a, r))

module _ (tags : Tags) (defined : Bool) (before : List t.Param) (ss : t.Specs) (stars : List t.Star) (name : Option t.Identifier) where
  abbrev Parts : Fault → Type 0
  Parts f =
      BreakSpecifiers tags false ss f
      ⊎ (BreakHead tags parameter ss stars f
      ⊎ BreakRules (IsMisnamed defined before (t.param (t.type_name ss stars) name)) (head_of (specified tags ss) stars).ty
      (param_at (t.param (t.type_name ss stars) name)) f)

  of_parts : (f : Fault) → Parts f → BreakParam tags defined before ss stars name f
  of_parts f (inl b) = param_specified b
  of_parts f (inr (inl b)) = param_headed b
  of_parts f (inr (inr (inl (r, a, w)))) = misnamed r a w
  of_parts f (inr (inr (inr (r, a, (ty, e, n))))) = no_parameter r a ty ((type_said tags ss stars ty).0 e) n

  to_parts : (f : Fault) → BreakParam tags defined before ss stars name f → Parts f
  to_parts f (param_specified b) = inl b
  to_parts f (param_headed b) = inr (inl b)
  to_parts f (misnamed r a w) = inr (inr (inl (r, a, w)))
  to_parts f (no_parameter r a ty e n) = inr (inr (inr (r, a, (ty, (type_said tags ss stars ty).1 e, n))))

  pub param_judged : (b : Bool) → Decides b (IsMisnamed defined before (t.param (t.type_name ss stars) name))
      → TellAt (param_sites tags b (t.param (t.type_name ss stars) name)) (BreakParam tags defined before ss stars name)
  param_judged b d =
      let s = specified tags ss in
      let at = param_at (t.param (t.type_name ss stars) name) in
      let rules = param_rules b (head_of s stars).ty at in
      let heads = head_rules false (void_at s.types) s stars in
      let Wrong = IsMisnamed defined before (t.param (t.type_name ss stars) name) in
      like (param_sites tags b (t.param (t.type_name ss stars) name)) Parts (BreakParam tags defined before ss stars name) of_parts to_parts
      (both (λ rest. on (specs_rules tags false ss []) ∷ rest) (λ rest. on heads ∷ on rules ∷ rest) (BreakSpecifiers tags false ss)
      (λ f. BreakHead tags parameter ss stars f ⊎ BreakRules Wrong (head_of s stars).ty at f)
      (at_one (specs_rules tags false ss []) (BreakSpecifiers tags false ss) (specifiers_alone tags false ss))
      (both (λ rest. on heads ∷ rest) (λ rest. on rules ∷ rest) (BreakHead tags parameter ss stars)
      (BreakRules Wrong (head_of s stars).ty at)
      (at_one heads (BreakHead tags parameter ss stars) (λ f. heads_are_judged tags parameter ss stars f))
      (at_one rules (BreakRules Wrong (head_of s stars).ty at) (rules_judged Wrong b (head_of s stars).ty at d))))

-- ---- all of them

-- what a list has at a place, and behind it
at_place : (all : List t.NextParam) (i : ℕ) (x : t.NextParam) (xs : List t.NextParam) → drop i all ≡ x ∷ xs
    → (take (i + 1) all ≡ take i all ++ x ∷ []) × (drop (i + 1) all ≡ xs)
at_place [] zero x xs e = cc
at_place [] (suc i) x xs e = cc
at_place (b ∷ bs) zero x xs e = (let same : b ≡ x = cc in ap (λ z. z ∷ []) same, let same : bs ≡ xs = cc in same)
at_place (b ∷ bs) (suc i) x xs e =
    let p = at_place bs i x xs e in
    let n : suc i + 1 ≡ suc (i + 1) = omega arith in
    (ap (λ k. take k (b ∷ bs)) n ∙ ap (λ ys. b ∷ ys) p.0, ap (λ k. drop k (b ∷ bs)) n ∙ p.1)

module _ (tags : Tags) (defined : Bool) where
  more_judged : (first : t.Param) (all : List t.NextParam) (i : ℕ) (ps : List t.NextParam) (before : List t.Param) → drop i all ≡ ps
      → AreBefore first (take i all) before
      → TellAt (more_params_sites tags defined first all i ps) (BreakParams tags defined before (params_behind ps))
  more_judged first all i [] before e h = nowhere
  more_judged first all i (t.next_param comma (t.param (t.type_name ss stars) name) ∷ ps) before e h =
      let q = t.param (t.type_name ss stars) name in
      let place = at_place all i (t.next_param comma q) ps e in
      let next : AreBefore first (take (i + 1) all) (q ∷ before)
      = subst (λ front. AreBefore first front (q ∷ before)) (sym place.0) (one_before first (take i all) before comma q h) in
      both (param_sites tags (is_misnamed defined first (take i all) q) q) (more_params_sites tags defined first all (i + 1) ps)
      (BreakParam tags defined before ss stars name) (BreakParams tags defined (q ∷ before) (params_behind ps))
      (param_judged tags defined before ss stars name (is_misnamed defined first (take i all) q)
      (misnamed_told defined first (take i all) before q h))
      (more_judged first all (i + 1) ps (q ∷ before) place.1 next)

  first_before : (first : t.Param) → AreBefore first [] (first ∷ [])
  first_before first n =
      Decides-or (has_name n first) false (name_told n first) (λ e. absurd (false≢true e), λ h. absurd h)

  pub params_judged : (ps : t.Params) → TellAt (params_sites tags defined ps) (BreakParams tags defined [] (params_in ps))
  params_judged (t.void_params s) = nowhere
  params_judged (t.params (t.param (t.type_name ss stars) name) more) =
      let q = t.param (t.type_name ss stars) name in
      both (param_sites tags (is_nameless defined q) q) (more_params_sites tags defined q more 0 more)
      (BreakParam tags defined [] ss stars name) (BreakParams tags defined (q ∷ []) (params_behind more))
      (param_judged tags defined [] ss stars name (is_nameless defined q) (nameless_told defined q))
      (more_judged q more 0 more (q ∷ []) refl (first_before q))

-- ---- functions

abbrev BreakResult : Option PlainType → (at : ℕ) → Fault → Type 0
BreakResult o at f = (f.rule ≡ 17) × (f.at ≡ at) × IsKnown (λ ty. (¬ IsScalar ty) × (ty ≢ void)) o

result_judged : (o : Option PlainType) (at : ℕ) (f : Fault) → IsTold (rule 17 (is_no_result o) at ∷ []) f
    ↔ BreakResult o at f
result_judged o at f = (there, back)
  where
    there : IsTold (rule 17 (is_no_result o) at ∷ []) f → BreakResult o at f
    there (inl (e, a, r)) = (r, a, (no_result_told o).0 e)
    there (inr h) = absurd h

    back : BreakResult o at f → IsTold (rule 17 (is_no_result o) at ∷ []) f
    back (r, a, k) = inl ((no_result_told o).1 k, a, r)

pub functions_are_judged : FunctionsAreJudged
functions_are_judged tags defined ss stars at ps =
    let s = specified tags ss in
    let heads = head_rules false (misused_in_result (void_at s.types) stars) s stars in
    let o = (head_of s stars).ty in
    let rules = rule 17 (is_no_result o) at ∷ [] in
    like (function_sites tags defined s stars at ps)
    (λ f. BreakHead tags result ss stars f ⊎ (BreakResult o at f ⊎ BreakParams tags defined [] (params_in ps) f))
    (BreakFunction tags defined ss stars at ps) there back
    (both (λ rest. on heads ∷ rest) (λ rest. on rules ∷ params_sites tags defined ps rest) (BreakHead tags result ss stars)
    (λ f. BreakResult o at f ⊎ BreakParams tags defined [] (params_in ps) f)
    (at_one heads (BreakHead tags result ss stars) (λ f. heads_are_judged tags result ss stars f))
    (both (λ rest. on rules ∷ rest) (params_sites tags defined ps) (BreakResult o at) (BreakParams tags defined [] (params_in ps))
    (at_one rules (BreakResult o at) (result_judged o at)) (params_judged tags defined ps)))
  where
    there : (f : Fault)
        → BreakHead tags result ss stars f
        ⊎ (BreakResult (head_of (specified tags ss) stars).ty at f ⊎ BreakParams tags defined [] (params_in ps) f)
        → BreakFunction tags defined ss stars at ps f
    there f (inl b) = result_headed b
    there f (inr (inl (r, a, (ty, e, (n, m))))) = no_result r a ty ((type_said tags ss stars ty).0 e) n m
    there f (inr (inr b)) = in_params b

    back : (f : Fault) → BreakFunction tags defined ss stars at ps f
        → BreakHead tags result ss stars f
        ⊎ (BreakResult (head_of (specified tags ss) stars).ty at f ⊎ BreakParams tags defined [] (params_in ps) f)
    back f (result_headed b) = inl b
    back f (no_result r a ty e n m) = inr (inl (r, a, (ty, (type_said tags ss stars ty).1 e, (n, m))))
    back f (in_params b) = inr (inr b)

-- What is told of the expressions and words of statements breaks a constraint there, and the other way round.
use Rattle.std.proofs.Common.{◌≡◌, ℕ, Bool, true, false, not, List, [], ◌∷◌, refl, sym, subst, inl, inr}
use Rattle.std.specs.Prelude.{◌⊎◌, ◌↔◌, ◌≢◌, if◌then◌else◌, Option, Some, None}
use Rattle.std.specs.Bool.{Decides}
use Rattle.std.proofs.lemmas.Bool.{false≢true, not-true, not_from_false}
use Rattle.std.proofs.lemmas.Bool.Decides.{Decides-not}
use Rattle.ec_grammar.specs.Trees as t
use Rattle.ec_core.specs.Plain.{PlainType, void}
use Rattle.ec_check_operands.specs.declared.faults.Fault.{Fault}
use Rattle.ec_check_operands.specs.Faults.{rule}
use Rattle.ec_check_operands.specs.Laws.{IsTold}
use Rattle.ec_check_operands.specs.Operands.{Operand}
use Rattle.ec_check_operands.specs.Passing.{passing_rules}
use Rattle.ec_check_operands.specs.Sorts.{is_void}
use Rattle.ec_check_forms.specs.Constraints.{IsScalar, IsStruct}
use Rattle.ec_check_forms.specs.Nodes.{used, use_rules}
use Rattle.ec_check_forms.specs.Sites.{a_use, a_part, a_condition}
use Rattle.ec_check_forms.proofs.Decided.{voids, no_scalar_told, struct_part_told}
use Rattle.ec_check_names.specs.Firsts.{first_expression}
use Rattle.ec_check_names.specs.Names.{Names}
use Rattle.ec_check_expressions.specs.Expressions.{of_expression, expression_sites}
use Rattle.ec_check_expressions.specs.Known.{Known}
use Rattle.ec_check_expressions.specs.Sites as expressions
use Rattle.ec_check_declarations.specs.Scopes.{Context, known_in}
use Rattle.ec_check_declarations.specs.Sites.{on, expression_in}
use Rattle.ec_check_statements.specs.Around.{Around}
use Rattle.ec_check_statements.specs.Kinds.{left_sites}
use Rattle.ec_check_statements.specs.Parts.{test_sites, evaluation_sites, return_sites}
use Rattle.ec_check_statements.specs.Results.{returned_type, has_no_result, has_result}
use Rattle.ec_check_meanings.specs.Terms.{Term, term_of_expression}
use Rattle.ec_check_parts.specs.Expressions.{BreakTerm, BreakUsed, in_term}
use Rattle.ec_check_parts.specs.Statements.{BreakCondition, condition_used, no_condition, BreakEvaluation, in_evaluation}
use Rattle.ec_check_parts.specs.Statements.{struct_evaluated}
use Rattle.ec_check_parts.specs.Statements.{BreakReturned, in_returned, value_of_void, returned_passed, BreakReturn, BreakLeaving}
use Rattle.ec_check_parts.specs.Laws.{TellAt, StatementsAreJudged}
use Rattle.ec_check_parts.proofs.Joined.{at_one, both, like}
use Rattle.ec_check_parts.proofs.Nested.{IsToldIn, expressions_told}
use Rattle.ec_check_parts.proofs.Expressions.{ExpressionLaws, expression_told, means_expression, used_told, uses_is, known_and}
use Rattle.ec_check_parts.proofs.Expressions.{no_some, same_some, IsPassing, passing_is}
use Rattle.ec_check_parts.proofs.Structures.{one_judged}

-- ---- results

no_result_told : (o : Option PlainType) → Decides (has_no_result o) (o ≡ Some void)
no_result_told None = (λ e. absurd (false≢true e), λ e. absurd (no_some void e))
no_result_told (Some ty) =
    (λ e. subst (λ z. Some ty ≡ Some z) ((voids ty).0 e) refl, λ e. (voids ty).1 (same_some ty void e))

-- a function has a result
abbrev HasResult : Option PlainType → Type 0
HasResult o = (ty : PlainType) × (o ≡ Some ty) × (ty ≢ void)

result_told : (o : Option PlainType) → Decides (has_result o) (HasResult o)
result_told None = (λ e. absurd (false≢true e), λ h. absurd (no_some h.0 h.1))
result_told (Some ty) = (λ e. (ty, refl, d.0 e), λ h. d.1 (subst (λ z. z ≢ void) (sym (same_some ty h.0 h.1)) h.2))
  where
    d : Decides (not (is_void ty)) (ty ≢ void)
    d = Decides-not (is_void ty) (voids ty)

returned_is : (o : Option PlainType) (u : PlainType) → returned_type o ≡ Some u ↔ ((o ≡ Some u) × (u ≢ void))
returned_is None u = (λ e. absurd (no_some u e), λ h. absurd (no_some u h.0))
returned_is (Some v) u = by (is_void v) (voids v)
  where
    by : (b : Bool) → Decides b (v ≡ void) → (if b then None else Some v) ≡ Some u ↔ ((Some v ≡ Some u) × (u ≢ void))
    by true d = (λ e. absurd (no_some u e), λ h. absurd (h.1 (subst (λ z. z ≡ void) (same_some v u h.0) (d.0 refl))))
    by false d = (λ e. (e, λ q. false≢true (d.1 (subst (λ z. z ≡ void) (sym (same_some v u e)) q))), λ h. h.0)

module _ (laws : ExpressionLaws) (k : Known) (x : t.Expression) (f : Fault) where
  abbrev m : Option Operand
  m = of_expression k x

  abbrev term : Term
  term = term_of_expression x

  abbrev first : ℕ
  first = first_expression x

  use_told : BreakTerm k term f ⊎ (IsTold (use_rules m first) f ⊎ ⊥) ↔ BreakUsed k term first f
  use_told = used_told k term m (means_expression laws k x) first f

  -- ---- conditions

  abbrev pub tested_places : ℕ → List expressions.Site
  tested_places word = expressions.on (a_use m first) ∷ expressions.on (a_condition (used m) word) ∷ []

  condition_told : (word : ℕ) → IsToldIn (expression_sites k x (tested_places word)) f ↔ BreakCondition k x word f
  condition_told word = (λ h. there ((expression_told laws k x (tested_places word) f).0 h), back)
    where
      there : BreakTerm k term f ⊎ IsToldIn (tested_places word) f → BreakCondition k x word f
      there (inl b) = condition_used (in_term b)
      there (inr (inl h)) = condition_used (use_told.0 (inr (inl h)))
      there (inr (inr (inl (inl (b, a, r))))) =
          let g = (known_and (used m) (λ ty. ¬ IsScalar ty)).0 ((no_scalar_told (used m)).0 b) in
          no_condition r a g.0 ((uses_is k term m (means_expression laws k x) g.0).1 g.1) g.2
      there (inr (inr (inl (inr h)))) = absurd h
      there (inr (inr (inr h))) = absurd h

      places : BreakTerm k term f ⊎ (IsTold (use_rules m first) f ⊎ ⊥) → BreakTerm k term f ⊎ IsToldIn (tested_places word) f
      places (inl b) = inl b
      places (inr (inl h)) = inr (inl h)
      places (inr (inr h)) = absurd h

      back : BreakCondition k x word f → IsToldIn (expression_sites k x (tested_places word)) f
      back (condition_used b) = (expression_told laws k x (tested_places word) f).1 (places (use_told.1 b))
      back (no_condition r a o v n) =
          (expression_told laws k x (tested_places word) f).1 (inr (inr (inl (inl (
            (no_scalar_told (used m)).1
                ((known_and (used m) (λ ty. ¬ IsScalar ty)).1 (o, (uses_is k term m (means_expression laws k x) o).0 v, n)),
            a,
            r,
          )))))

  -- ---- expressions whose value is not used

  abbrev pub part_places : List expressions.Site
  part_places = expressions.on (a_part m first) ∷ []

  evaluation_told : IsToldIn (expression_sites k x part_places) f ↔ BreakEvaluation k x f
  evaluation_told = (λ h. there ((expression_told laws k x part_places f).0 h), back)
    where
      there : BreakTerm k term f ⊎ IsToldIn part_places f → BreakEvaluation k x f
      there (inl b) = in_evaluation b
      there (inr (inl (inl (b, a, r)))) =
          let g = (known_and m IsStruct).0 ((struct_part_told m).0 b) in
          struct_evaluated r a g.0 ((means_expression laws k x g.0).1 g.1) g.2
      there (inr (inl (inr h))) = absurd h
      there (inr (inr h)) = absurd h

      back : BreakEvaluation k x f → IsToldIn (expression_sites k x part_places) f
      back (in_evaluation b) = (expression_told laws k x part_places f).1 (inl b)
      back (struct_evaluated r a o v s) =
          (expression_told laws k x part_places f).1 (inr (inl (inl (
            (struct_part_told m).1
                ((known_and m IsStruct).1 (o, (means_expression laws k x o).0 v, s)),
            a,
            r,
          ))))

  -- ---- `return`

  -- what is told of a value beside its expression
  abbrev IsReturned : Option PlainType → (at : ℕ) → Type 0
  IsReturned result at = ((f.rule ≡ 39) × (f.at ≡ at) × (result ≡ Some void)) ⊎ IsPassing m (returned_type result) at f

  returned_told : (result : Option PlainType) (at : ℕ)
      → IsTold (rule 39 (has_no_result result) at ∷ passing_rules m (returned_type result) at) f ↔ IsReturned result at
  returned_told result at = (there, back)
    where
      there : IsTold (rule 39 (has_no_result result) at ∷ passing_rules m (returned_type result) at) f → IsReturned result at
      there (inl (b, a, r)) = inl (r, a, (no_result_told result).0 b)
      there (inr h) = inr ((passing_is laws.types m (returned_type result) at f).0 h)

      back : IsReturned result at → IsTold (rule 39 (has_no_result result) at ∷ passing_rules m (returned_type result) at) f
      back (inl (r, a, e)) = inl ((no_result_told result).1 e, a, r)
      back (inr h) = inr ((passing_is laws.types m (returned_type result) at f).1 h)

  value_there : (result : Option PlainType) (at : ℕ) → IsToldIn (expression_sites k x []) f ⊎ IsReturned result at
      → BreakReturned k result x at f
  value_there result at (inl h) = by ((expression_told laws k x [] f).0 h)
    where
      by : BreakTerm k term f ⊎ ⊥ → BreakReturned k result x at f
      by (inl b) = in_returned b
      by (inr h) = absurd h
  value_there result at (inr (inl (r, a, e))) = value_of_void r a e
  value_there result at (inr (inr (o, e, u, q, b))) =
      let s = (returned_is result u).0 q in returned_passed o ((means_expression laws k x o).1 e) u s.0 s.1 b

  value_back : (result : Option PlainType) (at : ℕ) → BreakReturned k result x at f
      → IsToldIn (expression_sites k x []) f ⊎ IsReturned result at
  value_back result at (in_returned b) = inl ((expression_told laws k x [] f).1 (inl b))
  value_back result at (value_of_void r a e) = inr (inl (r, a, e))
  value_back result at (returned_passed o v u q n b) =
      inr (inr (o, (means_expression laws k x o).0 v, u, (returned_is result u).1 (q, n), b))

module _ (laws : ExpressionLaws) where
  conditions : (c : Context) (names : Names) (x : t.Expression) (word : ℕ)
      → TellAt (test_sites c names x word) (BreakCondition (known_in c names) x word)
  unfolding test_sites
  conditions c names x word =
      let k = known_in c names in
      let xs = expression_sites k x (expressions.on (a_use (of_expression k x) (first_expression x))
      ∷ expressions.on (a_condition (used (of_expression k x)) word) ∷ []) in
      like (expression_in xs) (IsToldIn xs) (BreakCondition k x word) (λ f. (condition_told laws k x f word).0)
      (λ f. (condition_told laws k x f word).1) (expressions_told xs)

  evaluations : (c : Context) (names : Names) (x : t.Expression)
      → TellAt (evaluation_sites c names x) (BreakEvaluation (known_in c names) x)
  unfolding evaluation_sites
  evaluations c names x =
      let k = known_in c names in
      let xs = expression_sites k x (expressions.on (a_part (of_expression k x) (first_expression x)) ∷ []) in
      like (expression_in xs) (IsToldIn xs) (BreakEvaluation k x) (λ f. (evaluation_told laws k x f).0)
      (λ f. (evaluation_told laws k x f).1) (expressions_told xs)

  returns : (c : Context) (r : Around) (names : Names) (x : Option t.Expression) (at : ℕ)
      → TellAt (return_sites c r names x at) (BreakReturn (known_in c names) r.result x at)
  unfolding return_sites
  returns c r names None at =
      at_one (rule 39 (has_result r.result) at ∷ []) (BreakReturn (known_in c names) r.result None at)
      (one_judged 39 (has_result r.result) at (HasResult r.result) (result_told r.result))
  returns c r names (Some x) at =
      let k = known_in c names in
      let xs = expression_sites k x [] in
      let js = rule 39 (has_no_result r.result) at ∷ passing_rules (of_expression k x) (returned_type r.result) at in
      let Returned = (λ (f : Fault). IsReturned laws k x f r.result at) in
      like (λ rest. expression_in xs (on js ∷ rest)) (λ f. IsToldIn xs f ⊎ Returned f) (BreakReturned k r.result x at)
      (λ f. value_there laws k x f r.result at) (λ f. value_back laws k x f r.result at)
      (both (expression_in xs) (λ rest. on js ∷ rest) (IsToldIn xs) Returned (expressions_told xs)
      (at_one js Returned (λ f. returned_told laws k x f r.result at)))

  leaving : (r : Around) (at : ℕ) → TellAt (left_sites r at) (BreakLeaving r.in_loop at)
  leaving r at =
      at_one (rule 38 (not r.in_loop) at ∷ []) (BreakLeaving r.in_loop at)
      (one_judged 38 (not r.in_loop) at (r.in_loop ≡ false) (not-true r.in_loop, not_from_false r.in_loop))

pub statements_are_judged : ExpressionLaws → StatementsAreJudged
statements_are_judged laws = record {
  conditions = conditions laws;
  evaluations = evaluations laws;
  returns = returns laws;
  leaving = leaving laws;
}

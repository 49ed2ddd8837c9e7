-- Expressions in statements have meanings where no rule is broken at their sites.
use Rattle.std.proofs.Common.{◌≡◌, ℕ, false, List, [], ◌∷◌, refl}
use Rattle.std.specs.Prelude.{if◌then◌else◌, Option, Some, None, IsSome, IsSomeAnd, option_map}
use Rattle.std.proofs.lemmas.Bool.{both_ways, not-false, false≢true}
use Rattle.ec_grammar.specs.Trees as t
use Rattle.ec_core.specs.Plain.{PlainType, evaluate, return_value}
use Rattle.ec_check_names.specs.Firsts.{first_expression}
use Rattle.ec_check_names.specs.Names.{Names}
use Rattle.ec_check_forms.specs.Nodes.{use_rules, used, part_rules, used_part, condition}
use Rattle.ec_check_operands.specs.declared.operands.Modes.{Modes}
use Rattle.ec_check_operands.specs.Operands.{Operand, value_type, as_value}
use Rattle.ec_check_operands.specs.Passing.{passed, passing_rules}
use Rattle.ec_check_operands.specs.Sorts.{is_void, is_struct}
use Rattle.ec_check_forms.specs.Meanings.{KeptFormsHaveMeanings}
use Rattle.ec_check_forms.specs.Sites.{a_use, a_part, a_condition, a_passing, rules_at}
use Rattle.ec_check_expressions.specs.Expressions.{of_expression, of_assignment, of_conditional, expression_sites, assignment_sites}
use Rattle.ec_check_expressions.specs.Expressions.{conditional_sites}
use Rattle.ec_check_expressions.specs.Known.{Known}
use Rattle.ec_check_expressions.specs.Sites as e
use Rattle.ec_check_expression_laws.specs.Laws.{AreUnbroken, KeptExpressionsHaveMeanings}
use Rattle.ec_check_expression_laws.specs.Suits.{IsProper, HasTypes}
use Rattle.ec_check_expression_laws.proofs.Unbroken.{site_kept}
use Rattle.ec_check_declarations.specs.Scopes.{Context, known_in}
use Rattle.ec_check_declarations.specs.Sites as d
use Rattle.ec_check_statements.specs.Around.{Around}
use Rattle.ec_check_statements.specs.Results.{returned_type, has_no_result, has_result}
use Rattle.ec_check_statements.specs.Parts.{tested, test_sites, optional_test, optional_test_sites, evaluated, evaluation_sites}
use Rattle.ec_check_statements.specs.Parts.{optional_evaluation, optional_evaluation_sites, returned, return_sites}
use Rattle.ec_check_statements.specs.Statements.{evaluation}
use Rattle.ec_check_statements.proofs.Choices.{if_both}
use Rattle.ec_check_statements.proofs.Unbroken.{InExpression, AreKept, expression_of, expression_told, kept_expression}

abbrev pub IsMeant : Option Operand → Type 0
IsMeant o = IsSomeAnd o IsProper

pub used_meant : (x : Option Operand) (at : ℕ) → IsMeant x → AreUnbroken (use_rules x at) → IsMeant (used x)
used_meant None at h k = absurd h
used_meant (Some x) at h k =
    if_both IsMeant (is_void (value_type x)) None (Some x) (λ q. absurd (both_ways (is_void (value_type x)) k.0 q)) (λ q. h)

pub mapped : {A B : Type 0} (f : A → B) (o : Option A) → IsSome o → IsSome (option_map f o)
mapped f None h = absurd (false≢true h)
mapped f (Some x) h = refl

part_meant : (m : Modes) (x : Option Operand) (at : ℕ) → IsMeant x → AreUnbroken (part_rules x at)
    → IsSome (option_map (as_value m) (used_part x))
part_meant m None at h k = absurd h
part_meant m (Some x) at h k =
    if_both (λ o. IsSome (option_map (as_value m) o)) (is_struct (value_type x)) None (Some x)
    (λ q. absurd (both_ways (is_struct (value_type x)) k.0 q)) (λ q. refl)

module _ (forms : KeptFormsHaveMeanings) (m : Modes) where
  condition_meant : (x : Option Operand) (at : ℕ) → IsMeant x → AreUnbroken (rules_at (a_condition x at)) → IsSome (condition m x)
  condition_meant None at h k = absurd h
  condition_meant (Some x) at h k = (forms m x x at h.null h.null).conditions (site_kept (a_condition (Some x) at) k)

  pub passed_meant : (to : PlainType) (x : Option Operand) (at : ℕ) → IsMeant x → AreUnbroken (passing_rules x (Some to) at)
      → IsSome (passed m (Some to) x)
  passed_meant to None at h k = absurd h
  passed_meant to (Some x) at h k = (forms m x x at h.null h.null).passed to (site_kept (a_passing (Some x) (Some to) at) k)

module _ (meanings : KeptExpressionsHaveMeanings) (k : Known) (h : HasTypes k) where
  pub expression_meant : (x : t.Expression) (rest : List e.Site) → InExpression (expression_sites k x rest)
      → IsMeant (of_expression k x) × InExpression rest
  expression_meant x rest q =
      let g = (meanings k h).expressions x rest (expression_told (expression_sites k x rest) q) in
      (g.0, expression_of rest g.1)

  pub assignment_meant : (x : t.Assignment) (rest : List e.Site) → InExpression (assignment_sites k x rest)
      → IsMeant (of_assignment k x) × InExpression rest
  assignment_meant x rest q =
      let g = (meanings k h).assignments x rest (expression_told (assignment_sites k x rest) q) in
      (g.0, expression_of rest g.1)

  pub conditional_meant : (x : t.Conditional) (rest : List e.Site) → InExpression (conditional_sites k x rest)
      → IsMeant (of_conditional k x) × InExpression rest
  conditional_meant x rest q =
      let g = (meanings k h).conditionals x rest (expression_told (conditional_sites k x rest) q) in
      (g.0, expression_of rest g.1)

module _ (meanings : KeptExpressionsHaveMeanings) (forms : KeptFormsHaveMeanings) (c : Context) (names : Names)
    (h : HasTypes (known_in c names)) where
  abbrev known : Known
  known = known_in c names

  -- ---- conditions

  pub test_meant : (x : t.Expression) (at : ℕ) (rest : List d.Site) → AreKept (test_sites c names x at rest)
      → IsSome (tested c names x) × AreKept rest
  unfolding tested test_sites
  test_meant x at rest q =
      let a = kept_expression (expression_sites known x
      (e.on (a_use (of_expression known x) (first_expression x)) ∷ e.on (a_condition (used (of_expression known x)) at) ∷ [])) rest q in
      let b = expression_meant meanings known h x
      (e.on (a_use (of_expression known x) (first_expression x)) ∷ e.on (a_condition (used (of_expression known x)) at) ∷ []) a.0 in (
        condition_meant forms c.modes (used (of_expression known x)) at
            (used_meant (of_expression known x) (first_expression x) b.0 b.1.0) b.1.1.0,
        a.1,
      )

  pub optional_test_meant : (x : Option t.Expression) (at : ℕ) (rest : List d.Site) → AreKept (optional_test_sites c names x at rest)
      → IsSome (optional_test c names x) × AreKept rest
  unfolding optional_test optional_test_sites
  optional_test_meant None at rest q = (refl, q)
  optional_test_meant (Some x) at rest q = let g = test_meant x at rest q in (mapped Some (tested c names x) g.0, g.1)

  -- ---- expressions whose value is not used

  pub evaluated_meant : (x : t.Expression) (rest : List d.Site) → AreKept (evaluation_sites c names x rest)
      → IsSome (evaluated c names x) × AreKept rest
  unfolding evaluated evaluation_sites
  evaluated_meant x rest q =
      let a = kept_expression (expression_sites known x (e.on (a_part (of_expression known x) (first_expression x)) ∷ [])) rest q in
      let b = expression_meant meanings known h x (e.on (a_part (of_expression known x) (first_expression x)) ∷ []) a.0 in
      (part_meant c.modes (of_expression known x) (first_expression x) b.0 b.1.0, a.1)

  pub optional_evaluation_meant : (x : Option t.Expression) (rest : List d.Site) → AreKept (optional_evaluation_sites c names x rest)
      → IsSome (optional_evaluation c names x) × AreKept rest
  unfolding optional_evaluation optional_evaluation_sites
  optional_evaluation_meant None rest q = (refl, q)
  optional_evaluation_meant (Some x) rest q = let g = evaluated_meant x rest q in (mapped Some (evaluated c names x) g.0, g.1)

  pub evaluation_meant : (x : Option t.Expression) (rest : List d.Site) → AreKept (optional_evaluation_sites c names x rest)
      → IsSome (evaluation c names x) × AreKept rest
  unfolding evaluation optional_evaluation_sites
  evaluation_meant None rest q = (refl, q)
  evaluation_meant (Some x) rest q = let g = evaluated_meant x rest q in (mapped evaluate (evaluated c names x) g.0, g.1)

  -- ---- `return`

  module _ (r : Around) (returns : PlainType) (result : r.result ≡ Some returns) where
    nothing_meant : (o : Option PlainType) → o ≡ Some returns → has_result o ≡ false
        → IsSome (if has_no_result o then Some (return_value None) else None)
    nothing_meant None s q = cc
    nothing_meant (Some ty) s q =
        if_both IsSome (is_void ty) (Some (return_value None)) None (λ z. refl)
        (λ z. absurd (both_ways (is_void ty) z (not-false (is_void ty) q)))

    something_meant : (o : Option PlainType) → o ≡ Some returns → has_no_result o ≡ false → (x : Option Operand) (at : ℕ) → IsMeant x
        → AreUnbroken (passing_rules x (returned_type o) at) → IsSome (passed c.modes (returned_type o) x)
    something_meant None s q x at g u = cc
    something_meant (Some ty) s q x at g u =
        if_both (λ z. AreUnbroken (passing_rules x z at) → IsSome (passed c.modes z x)) (is_void ty) None (Some ty)
        (λ z. absurd (both_ways (is_void ty) q z)) (λ z. passed_meant forms c.modes ty x at g) u

    pub returned_meant : (x : Option t.Expression) (at : ℕ) (rest : List d.Site) → AreKept (return_sites c r names x at rest)
        → IsSome (returned c r names x) × AreKept rest
    unfolding returned return_sites
    returned_meant None at rest q = (nothing_meant r.result result q.0.0, q.1)
    returned_meant (Some x) at rest q =
        let a = kept_expression (expression_sites known x []) _ q in
        let b = expression_meant meanings known h x [] a.0 in (
          mapped (λ v. return_value (Some v)) (passed c.modes (returned_type r.result) (of_expression known x))
              (something_meant r.result result a.1.0.0 (of_expression known x) at b.0 a.1.0.1),
          a.1.1,
        )

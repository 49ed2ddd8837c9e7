-- Expressions in statements mean what the walk gives.
use Rattle.std.proofs.Common.{◌≡◌, ◌∙◌, ℕ, Bool, false, refl, sym, ap, subst}
use Rattle.std.specs.Prelude.{◌≢◌, if◌then◌else◌, option_map, Option, Some, None}
use Rattle.ec_grammar.specs.Trees as t
use Rattle.ec_core.specs.Plain.{PlainType, void, PlainExpr, PlainKind, return_value}
use Rattle.ec_check_operands.specs.Operands.{Operand, value_type, as_value}
use Rattle.ec_check_operands.specs.Options.{with_both}
use Rattle.ec_check_operands.specs.Passing.{brought, passed}
use Rattle.ec_check_operands.specs.Sorts.{is_void, is_scalar, is_struct}
use Rattle.ec_check_forms.specs.Nodes.{used, used_part}
use Rattle.ec_check_forms.proofs.Decided.{voids, scalars, structs_told}
use Rattle.ec_check_names.specs.Names.{Names}
use Rattle.ec_check_expressions.specs.Expressions.{of_expression}
use Rattle.ec_check_expressions.specs.Known.{Known}
use Rattle.ec_check_declarations.specs.Scopes.{Context, known_in}
use Rattle.ec_check_statements.specs.Parts.{tested, optional_test, evaluated, optional_evaluation, returned}
use Rattle.ec_check_statements.specs.Results.{returned_type}
use Rattle.ec_check_meanings.specs.Conversions.{IsPassed}
use Rattle.ec_check_meanings.specs.Means.{Means}
use Rattle.ec_check_meanings.specs.Terms.{term_of_expression}
use Rattle.ec_check_meanings.proofs.Conversions.{brought_is, is_brought}
use Rattle.ec_check_meanings.proofs.Options.{clash, refuted, inside, nothing_there, given, granted, with_given, with_granted, unless}
use Rattle.ec_check_meanings.proofs.Parts.{uses_of, used_to}
use Rattle.ec_check_typed.specs.Laws.{around}
use Rattle.ec_check_typed.specs.Statements as said
use Rattle.ec_check_typed.specs.Statements.{Enclosing, Tests, Evaluates, MayTest, MayEvaluate}
use Rattle.ec_check_typed.proofs.Values.{ValueLaws}

pub mapped : {A B : Type 0} → (f : A → B) (m : Option A) (v : B) → option_map f m ≡ Some v → (a : A) × (m ≡ Some a) × (f a ≡ v)
mapped f None v q = absurd (nothing_there v q)
mapped f (Some a) v q = (a, refl, inside q)

pub both_given : {A B C : Type 0} → (x : Option A) (y : Option B) (f : A → B → Option C) (v : C) → with_both x y f ≡ Some v
    → (a : A) × (b : B) × (x ≡ Some a) × (y ≡ Some b) × (f a b ≡ Some v)
both_given None y f v q = absurd (nothing_there v q)
both_given (Some a) None f v q = absurd (nothing_there v q)
both_given (Some a) (Some b) f v q = (a, b, refl, refl, q)

module _ (laws : ValueLaws) (c : Context) (names : Names) where
  abbrev k : Known
  k = known_in c names

  abbrev meant : t.Expression → Option Operand
  meant x = of_expression k x

  -- ---- conditions

  abbrev tested_by : Operand → Option PlainExpr
  tested_by o = if is_scalar (value_type o) then Some (as_value c.modes o) else None

  pub tests_to : (x : t.Expression) (e : PlainExpr) → Tests k x e → tested c names x ≡ Some e
  unfolding tested
  tests_to x _ (said.tested {o = o} u h) =
      with_granted (used (meant x)) tested_by o (as_value c.modes o)
      (used_to k (term_of_expression x) (meant x) ((laws.meanings k).expressions x) o u)
      (granted (is_scalar (value_type o)) (as_value c.modes o) (as_value c.modes o) ((scalars (value_type o)).1 h) refl)

  pub to_tests : (x : t.Expression) (e : PlainExpr) → tested c names x ≡ Some e → Tests k x e
  unfolding tested
  to_tests x e q =
      let g = with_given (used (meant x)) tested_by e q in
      let h = given (is_scalar (value_type g.0)) (as_value c.modes g.0) e g.2 in
      subst (λ (z : PlainExpr). Tests k x z) h.1
      (said.tested (uses_of k (term_of_expression x) (meant x) ((laws.meanings k).expressions x) g.0 g.1)
      ((scalars (value_type g.0)).0 h.0))

  pub may_test_to : (x : Option t.Expression) (e : Option PlainExpr) → MayTest k x e → optional_test c names x ≡ Some e
  unfolding optional_test
  may_test_to _ _ said.no_test = refl
  may_test_to _ _ (said.a_test {x = x} {e = e} h) = ap (option_map Some) (tests_to x e h)

  pub to_may_test : (x : Option t.Expression) (e : Option PlainExpr) → optional_test c names x ≡ Some e → MayTest k x e
  unfolding optional_test
  to_may_test None e q = subst (λ (z : Option PlainExpr). MayTest k None z) (inside q) said.no_test
  to_may_test (Some x) e q =
      let g = mapped Some (tested c names x) e q in
      subst (λ (z : Option PlainExpr). MayTest k (Some x) z) g.2 (said.a_test (to_tests x g.0 g.1))

  -- ---- expressions whose value is not used

  pub evaluates_to : (x : t.Expression) (e : PlainExpr) → Evaluates k x e → evaluated c names x ≡ Some e
  unfolding evaluated
  evaluates_to x _ (said.evaluated {o = o} m n) =
      ap (λ z. option_map (as_value c.modes) (used_part z)) (((laws.meanings k).expressions x o).0 m)
      ∙ ap (λ (b : Bool). option_map (as_value c.modes) (if b then None else Some o))
      (refuted (is_struct (value_type o)) (λ e. n ((structs_told (value_type o)).0 e)))

  part_used : (m : Option Operand) (o : Operand) → used_part m ≡ Some o → (m ≡ Some o) × (is_struct (value_type o) ≡ false)
  part_used None o q = absurd (nothing_there o q)
  part_used (Some x) o q =
      let g = unless (is_struct (value_type x)) (Some x) o q in
      (g.1, ap (λ z. is_struct (value_type z)) (sym (inside g.1)) ∙ g.0)

  pub to_evaluates : (x : t.Expression) (e : PlainExpr) → evaluated c names x ≡ Some e → Evaluates k x e
  unfolding evaluated
  to_evaluates x e q =
      let g = mapped (as_value c.modes) (used_part (meant x)) e q in
      let h = part_used (meant x) g.0 g.1 in
      subst (λ (z : PlainExpr). Evaluates k x z) g.2
      (said.evaluated (((laws.meanings k).expressions x g.0).1 h.0) (λ s. clash ((structs_told (value_type g.0)).1 s) h.1))

  pub may_evaluate_to : (x : Option t.Expression) (e : Option PlainExpr) → MayEvaluate k x e → optional_evaluation c names x ≡ Some e
  unfolding optional_evaluation
  may_evaluate_to _ _ said.no_evaluation = refl
  may_evaluate_to _ _ (said.an_evaluation {x = x} {e = e} h) = ap (option_map Some) (evaluates_to x e h)

  pub to_may_evaluate : (x : Option t.Expression) (e : Option PlainExpr) → optional_evaluation c names x ≡ Some e → MayEvaluate k x e
  unfolding optional_evaluation
  to_may_evaluate None e q = subst (λ (z : Option PlainExpr). MayEvaluate k None z) (inside q) said.no_evaluation
  to_may_evaluate (Some x) e q =
      let g = mapped Some (evaluated c names x) e q in
      subst (λ (z : Option PlainExpr). MayEvaluate k (Some x) z) g.2 (said.an_evaluation (to_evaluates x g.0 g.1))

  -- ---- values that are returned

  pub nothing_returned_to : (w : Enclosing) (in_loop : Bool) (first : ℕ) → w.result ≡ void
      → returned c (around w in_loop first) names None ≡ Some (return_value None)
  unfolding returned
  nothing_returned_to w in_loop first e =
      granted (is_void w.result) (return_value None) (return_value None) ((voids w.result).1 e) refl

  pub to_nothing_returned : (w : Enclosing) (in_loop : Bool) (first : ℕ) (kind : PlainKind)
      → returned c (around w in_loop first) names None ≡ Some kind → (w.result ≡ void) × (return_value None ≡ kind)
  unfolding returned
  to_nothing_returned w in_loop first kind q =
      let g = given (is_void w.result) (return_value None) kind q in ((voids w.result).0 g.0, g.1)

  abbrev result_by : PlainType → Bool → Option PlainType
  result_by ty b = if b then None else Some ty

  pub returned_to : (w : Enclosing) (in_loop : Bool) (first : ℕ) (x : t.Expression) (o : Operand) (v : PlainExpr) → w.result ≢ void
      → Means k (term_of_expression x) o → IsPassed c.modes w.result o v
      → returned c (around w in_loop first) names (Some x) ≡ Some (return_value (Some v))
  unfolding returned
  returned_to w in_loop first x o v n m p =
      ap (option_map (λ e. return_value (Some e)))
      (ap (λ (b : Bool). passed c.modes (result_by w.result b) (meant x)) (refuted (is_void w.result) (λ e. n ((voids w.result).0 e)))
      ∙ ap (passed c.modes (Some w.result)) (((laws.meanings k).expressions x o).0 m)
      ∙ is_brought laws.told c.modes w.result o v p)

  pub to_returned : (w : Enclosing) (in_loop : Bool) (first : ℕ) (x : t.Expression) (kind : PlainKind)
      → returned c (around w in_loop first) names (Some x) ≡ Some kind
      → (o : Operand) × (v : PlainExpr) × (w.result ≢ void) × Means k (term_of_expression x) o × IsPassed c.modes w.result o v
      × (return_value (Some v) ≡ kind)
  unfolding returned
  to_returned w in_loop first x kind q =
      let g = mapped (λ e. return_value (Some e)) (passed c.modes (returned_type (Some w.result)) (meant x)) kind q in
      let h = both_given (returned_type (Some w.result)) (meant x) (brought c.modes) g.0 g.1 in
      let r = unless (is_void w.result) (Some w.result) h.0 h.2 in (
        h.1,
        g.0,
        λ e. clash ((voids w.result).1 e) r.0,
        ((laws.meanings k).expressions x h.1).1 h.3,
        subst (λ (z : PlainType). IsPassed c.modes z h.1 g.0) (sym (inside r.1)) (brought_is laws.told c.modes h.0 h.1 g.0 h.4),
        g.2,
      )

-- Conditions, expressions whose value is not used, and values that are returned, are valid.
use Rattle.std.proofs.Common.{◌≡◌, ℕ, Bool, true, false, List, refl, sym, ap, ◌∙◌, subst, inl, inr}
use Rattle.std.specs.Prelude.{if◌then◌else◌, ◌≢◌, Option, Some, None, IfSome, option_map}
use Rattle.std.proofs.lemmas.Bool.{true≢false, false≢true}
use Rattle.ec_iohw.specs.declared.table.IoTable.{IoTable}
use Rattle.ec_grammar.specs.Spelling as spelling
use Rattle.ec_grammar.specs.Trees as t
use Rattle.ec_grammar.specs.Trees.{Leaf}
use Rattle.ec_core.specs.Layout.{IsScalar}
use Rattle.ec_core.specs.Plain.{PlainType, void, integer, fixed, pointer, array, struct, PlainExpr, PlainKind, evaluate, return_value}
use Rattle.ec_core.specs.Plain.{PlainProgram}
use Rattle.ec_core.specs.Valid.{ValidExpr, ValidOptional, ValidCondition, ValidKind, IsScalarOrVoid}
use Rattle.ec_check_names.specs.Names.{Names}
use Rattle.ec_check_forms.specs.Nodes.{used, used_part}
use Rattle.ec_check_operands.specs.Operands.{Operand, value_type, as_value}
use Rattle.ec_check_operands.specs.Passing.{passed}
use Rattle.ec_check_operands.specs.Sorts.{is_void, is_struct}
use Rattle.ec_check_forms.specs.Constraints.{IsStruct}
use Rattle.ec_check_forms.specs.Validity.{IsUsable, IsOptional, IsOfType, FormsStayValid}
use Rattle.ec_check_expressions.specs.Expressions.{of_expression}
use Rattle.ec_check_expression_laws.specs.Laws.{MeanOperands, ValuesAreValid}
use Rattle.ec_check_expression_laws.specs.Suits.{AreHeld}
use Rattle.ec_check_declarations.specs.Scopes.{Context, known_in}
use Rattle.ec_check_statements.specs.Around.{Around}
use Rattle.ec_check_statements.specs.Results.{returned_type, has_no_result}
use Rattle.ec_check_statements.specs.Parts.{tested, optional_test, evaluated, optional_evaluation, returned}
use Rattle.ec_check_statements.specs.Statements.{evaluation}
use Rattle.ec_check_statements.proofs.Choices.{if_both}
use Rattle.ec_check_statements.proofs.ValidInitialisers.{used_valid}

no_struct : (ty : PlainType) → is_struct ty ≡ false → ¬ IsStruct ty
no_struct void e h = h
no_struct (integer signed bytes) e h = h
no_struct (fixed kind sat) e h = h
no_struct (pointer s k to) e h = h
no_struct (array of len) e h = h
no_struct (struct i) e h = true≢false e

void_type : (ty : PlainType) → is_void ty ≡ true → ty ≡ void
void_type void e = refl
void_type (integer signed bytes) e = absurd (false≢true e)
void_type (fixed kind sat) e = absurd (false≢true e)
void_type (pointer s k to) e = absurd (false≢true e)
void_type (array of len) e = absurd (false≢true e)
void_type (struct i) e = absurd (false≢true e)

not_void : (ty : PlainType) → is_void ty ≡ false → ty ≢ void
not_void ty e q = true≢false (sym (ap is_void q) ∙ e)

returned_scalar : (ty : PlainType) → IsScalarOrVoid ty → is_void ty ≡ false → IsScalar ty
returned_scalar ty (inl h) e = h
returned_scalar ty (inr h) e = absurd (not_void ty e h)

module _ (forms : FormsStayValid) (values : ValuesAreValid) (p : PlainProgram) (io : IoTable) (f : ℕ) (c : Context) (names : Names)
    (ops : MeanOperands p io f (known_in c names)) where
  -- ---- conditions

  pub tested_valid : (x : t.Expression) (rest : List Leaf) → AreHeld (spelling.of_expression x rest)
      → ValidCondition p io f (tested c names x) × AreHeld rest
  unfolding tested
  tested_valid x rest h =
      let g = ops.expressions x rest h in (
        (forms p io f c.modes (used (of_expression (known_in c names) x)) None
            (used_valid p io f c.modes (of_expression (known_in c names) x) g.0) tt).conditions,
        g.1,
      )

  some_tested : (e : Option PlainExpr) → ValidCondition p io f e → IfSome (option_map Some e) (ValidCondition p io f)
  some_tested None h = tt
  some_tested (Some e) h = h

  pub optional_test_valid : (x : Option t.Expression) (rest : List Leaf) → AreHeld (spelling.of_option spelling.of_expression x rest)
      → IfSome (optional_test c names x) (ValidCondition p io f) × AreHeld rest
  unfolding optional_test
  optional_test_valid None rest h = (tt, h)
  optional_test_valid (Some x) rest h =
      let g = tested_valid x rest h in
      (some_tested (tested c names x) g.0, g.1)

  -- ---- expressions whose value is not used

  part_valid : (x : Option Operand) → IsOptional p io f x → IfSome (option_map (as_value c.modes) (used_part x)) (ValidExpr p io f)
  part_valid None h = tt
  part_valid (Some x) h =
      if_both (λ o. IfSome (option_map (as_value c.modes) o) (ValidExpr p io f)) (is_struct (value_type x)) None (Some x) (λ e. tt)
      (λ e. values p io f c.modes x h (no_struct (value_type x) e))

  pub evaluated_valid : (x : t.Expression) (rest : List Leaf) → AreHeld (spelling.of_expression x rest)
      → IfSome (evaluated c names x) (ValidExpr p io f) × AreHeld rest
  unfolding evaluated
  evaluated_valid x rest h =
      let g = ops.expressions x rest h in
      (part_valid (of_expression (known_in c names) x) g.0, g.1)

  some_evaluated : (e : Option PlainExpr) → IfSome e (ValidExpr p io f) → IfSome (option_map Some e) (ValidOptional p io f)
  some_evaluated None h = tt
  some_evaluated (Some e) h = h

  pub optional_evaluation_valid : (x : Option t.Expression) (rest : List Leaf) → AreHeld (spelling.of_option spelling.of_expression x rest)
      → IfSome (optional_evaluation c names x) (ValidOptional p io f) × AreHeld rest
  unfolding optional_evaluation
  optional_evaluation_valid None rest h = (tt, h)
  optional_evaluation_valid (Some x) rest h =
      let g = evaluated_valid x rest h in
      (some_evaluated (evaluated c names x) g.0, g.1)

  module _ (returns : PlainType) (in_loop : Bool) where
    kind_evaluated : (e : Option PlainExpr) → IfSome e (ValidExpr p io f)
        → IfSome (option_map evaluate e) (ValidKind p io f returns in_loop)
    kind_evaluated None h = tt
    kind_evaluated (Some e) h = h

    pub evaluation_valid : (x : Option t.Expression) (rest : List Leaf) → AreHeld (spelling.of_option spelling.of_expression x rest)
        → IfSome (evaluation c names x) (ValidKind p io f returns in_loop) × AreHeld rest
    unfolding evaluation
    evaluation_valid None rest h = (tt, h)
    evaluation_valid (Some x) rest h =
        let g = evaluated_valid x rest h in
        (kind_evaluated (evaluated c names x) g.0, g.1)

    -- ---- `return`

    abbrev Good : Option PlainKind → Type 0
    Good k = IfSome k (ValidKind p io f returns in_loop)

    abbrev by_type : Option PlainType → Option Operand → Option PlainKind
    by_type ty x = option_map (λ e. return_value (Some e)) (passed c.modes ty x)

    value_returned : is_void returns ≡ false → (e : Option PlainExpr) → IsOfType p io f returns e
        → Good (option_map (λ e. return_value (Some e)) e)
    value_returned q None h = tt
    value_returned q (Some e) h = ((not_void returns q, h.1), h.0)

    nothing_returned : Good (if is_void returns then Some (return_value None) else None)
    nothing_returned = if_both Good (is_void returns) (Some (return_value None)) None (λ e. (void_type returns e, tt)) (λ e. tt)

    something_returned : IsScalarOrVoid returns → IsUsable p.structs returns → (x : Option Operand) → IsOptional p io f x
        → Good (by_type (returned_type (Some returns)) x)
    something_returned scalar usable x h =
        if_both (λ ty. Good (by_type ty x)) (is_void returns) None (Some returns) (λ e. tt)
        (λ e. value_returned e (passed c.modes (Some returns) x)
        ((forms p io f c.modes x None h tt).passed returns (returned_scalar returns scalar e) usable))

    pub returned_valid : (r : Around) → r.result ≡ Some returns → IsScalarOrVoid returns → IsUsable p.structs returns
        → (x : Option t.Expression) (rest : List Leaf)
        → AreHeld (spelling.of_option spelling.of_expression x rest) → Good (returned c r names x) × AreHeld rest
    unfolding returned
    returned_valid r result scalar usable None rest h = (
      subst (λ (o : Option PlainType). Good (if has_no_result o then Some (return_value None) else None)) (sym result) nothing_returned,
      h,
    )
    returned_valid r result scalar usable (Some x) rest h =
        let g = ops.expressions x rest h in (
          subst (λ (o : Option PlainType). Good (by_type (returned_type o) (of_expression (known_in c names) x))) (sym result)
              (something_returned scalar usable (of_expression (known_in c names) x) g.0),
          g.1,
        )

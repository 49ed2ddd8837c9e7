-- Expressions in statements: conditions, expressions whose value is not used, and values that are returned (ISO/IEC
-- 9899:1999, 6.8.3 to 6.8.6).
use Rattle.std.specs.Prelude.{ℕ, if◌then◌else◌, Option, Some, None, option_map, List, [], ◌∷◌}
use Rattle.ec_check_operands.specs.Faults.{rule}
use Rattle.ec_grammar.specs.Trees as t
use Rattle.ec_core.specs.Plain.{PlainExpr, PlainKind, return_value}
use Rattle.ec_check_names.specs.Firsts.{first_expression}
use Rattle.ec_check_names.specs.Names.{Names}
use Rattle.ec_check_operands.specs.Operands.{as_value}
use Rattle.ec_check_operands.specs.Passing.{passed, passing_rules}
use Rattle.ec_check_forms.specs.Nodes.{used, used_part, condition}
use Rattle.ec_check_forms.specs.Sites.{a_use, a_part, a_condition}
use Rattle.ec_check_expressions.specs.Expressions.{of_expression, expression_sites}
use Rattle.ec_check_expressions.specs.Sites.{on as in_operands}
use Rattle.ec_check_declarations.specs.Scopes.{Context, known_in}
use Rattle.ec_check_declarations.specs.Sites.{Site, on, expression_in}
use Rattle.ec_check_statements.specs.Around.{Around}
use Rattle.ec_check_statements.specs.Results.{returned_type, has_no_result, has_result}

-- ---- conditions

-- its value, which is scalar
unfoldable pub tested : Context → Names → t.Expression → Option PlainExpr
tested c names x = condition c.modes (used (of_expression (known_in c names) x))

-- 40 at its first token, and 25 at the word of the statement
unfoldable pub test_sites : Context → Names → t.Expression → (at : ℕ) → List Site → List Site
test_sites c names x at rest =
    expression_in (expression_sites (known_in c names) x
    (in_operands (a_use (of_expression (known_in c names) x) (first_expression x))
    ∷ in_operands (a_condition (used (of_expression (known_in c names) x)) at) ∷ [])) rest

-- a condition that may be left out
unfoldable pub optional_test : Context → Names → Option t.Expression → Option (Option PlainExpr)
optional_test c names None = Some None
optional_test c names (Some x) = option_map Some (tested c names x)

unfoldable pub optional_test_sites : Context → Names → Option t.Expression → (at : ℕ) → List Site → List Site
optional_test_sites c names None at rest = rest
optional_test_sites c names (Some x) at rest = test_sites c names x at rest

-- ---- expressions whose value is not used

-- it may be void, but no struct
unfoldable pub evaluated : Context → Names → t.Expression → Option PlainExpr
evaluated c names x = option_map (as_value c.modes) (used_part (of_expression (known_in c names) x))

-- 40 at its first token
unfoldable pub evaluation_sites : Context → Names → t.Expression → List Site → List Site
evaluation_sites c names x rest =
    expression_in (expression_sites (known_in c names) x
    (in_operands (a_part (of_expression (known_in c names) x) (first_expression x)) ∷ [])) rest

-- one that may be left out
unfoldable pub optional_evaluation : Context → Names → Option t.Expression → Option (Option PlainExpr)
optional_evaluation c names None = Some None
optional_evaluation c names (Some x) = option_map Some (evaluated c names x)

unfoldable pub optional_evaluation_sites : Context → Names → Option t.Expression → List Site → List Site
optional_evaluation_sites c names None rest = rest
optional_evaluation_sites c names (Some x) rest = evaluation_sites c names x rest

-- ---- `return`

-- nothing is returned where there is no result, and else a value, which is brought to the result's type
unfoldable pub returned : Context → Around → Names → Option t.Expression → Option PlainKind
returned c r names None = if has_no_result r.result then Some (return_value None) else None
returned c r names (Some x) =
    option_map (λ e. return_value (Some e))
    (passed c.modes (returned_type r.result) (of_expression (known_in c names) x))

-- 39, and 28 to 30, at `return`
unfoldable pub return_sites : Context → Around → Names → Option t.Expression → (at : ℕ) → List Site → List Site
return_sites c r names None at rest = on (rule 39 (has_result r.result) at ∷ []) ∷ rest
return_sites c r names (Some x) at rest =
    expression_in (expression_sites (known_in c names) x [])
    (on (rule 39 (has_no_result r.result) at
    ∷ passing_rules (of_expression (known_in c names) x) (returned_type r.result) at) ∷ rest)

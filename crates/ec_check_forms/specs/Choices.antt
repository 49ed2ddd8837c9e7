-- What `&&`, `||`, `?:`, casts and commas make of their operands, and what these break (ISO/IEC 9899:1999, 6.5.4, 6.5.13
-- to 6.5.15 and 6.5.17).
use Rattle.std.specs.Prelude.{ℕ, Bool, true, false, not, ◌&&◌, ◌||◌, if◌then◌else◌, Option}
use Rattle.std.specs.Prelude.{Some, None, List, [], ◌∷◌}
use Rattle.ec_check_operands.specs.Faults.{Judgement, rule}
use Rattle.ec_core.specs.Plain.{PlainType, void}
use Rattle.ec_core.specs.Plain.{PlainExpr}
use Rattle.ec_core.specs.Plain.{logical_and, logical_or, conditional, comma}
use Rattle.ec_core.specs.Typing.{int, type_of_expr}
use Rattle.ec_check_operands.specs.declared.operands.Modes.{Modes}
pub use Rattle.ec_check_operands.specs.Meetings.{pointer_between, type_between}
use Rattle.ec_check_operands.specs.Operands.{Operand, made, value_type, as_value, is_null}
use Rattle.ec_check_operands.specs.Operands.{valued, with_one, with_both}
use Rattle.ec_check_operands.specs.Operators.{is_beside_null, are_apart, meeting}
use Rattle.ec_check_operands.specs.Passing.{in_type}
use Rattle.ec_check_operands.specs.Sorts.{is_void, is_arithmetic, is_pointer}
use Rattle.ec_check_operands.specs.Sorts.{same_pointee, nest}
use Rattle.ec_check_forms.specs.Nodes.{no_scalar}

-- ---- `&&`, `||` and the comma

abbrev pub logical_rules : Option Operand → Option Operand → ℕ → List Judgement
logical_rules x y at = rule 25 (no_scalar x) at ∷ rule 25 (no_scalar y) at ∷ []

abbrev pub logical : Modes → (both : Bool) → Option PlainExpr → Option PlainExpr → Option Operand
logical m true x y = with_both x y (λ a b. valued (made m int (logical_and a b)))
logical m false x y = with_both x y (λ a b. valued (made m int (logical_or a b)))

abbrev pub sequence : Modes → Operand → Operand → Option Operand
sequence m x y = valued (made m (type_of_expr (as_value m y)) (comma (as_value m x) (as_value m y)))

-- ---- the operator `?:`

-- two values of which one can be chosen
abbrev pub alternatives : PlainType → Bool → PlainType → Bool → Bool
alternatives a p b q =
    is_void a && is_void b || is_arithmetic a && is_arithmetic b || same_pointee a b || is_beside_null a p b q

-- 24
abbrev pub no_alternatives : Option Operand → Option Operand → Bool
no_alternatives (Some x) (Some y) = not (alternatives (value_type x) (is_null x) (value_type y) (is_null y))
no_alternatives x y = false

-- 32
abbrev pub chosen_apart : Option Operand → Option Operand → Bool
chosen_apart (Some x) (Some y) = are_apart (value_type x) (value_type y)
chosen_apart x y = false

abbrev pub choice_rules : Option Operand → Option Operand → Option Operand → ℕ → List Judgement
choice_rules c x y at =
    rule 25 (no_scalar c) at ∷ rule 24 (no_alternatives x y) at ∷ rule 32 (chosen_apart x y) at ∷ []

-- the type to which both are brought
abbrev pub choice_type : Operand → Operand → Option PlainType
choice_type x y =
    if not (alternatives (value_type x) (is_null x) (value_type y) (is_null y)) then None
    else (if is_void (value_type x) then Some void
    else type_between (meeting (value_type x) (value_type y)) (value_type x) (value_type y))

abbrev pub choice_made : Modes → PlainType → PlainExpr → PlainExpr → PlainExpr → PlainExpr
choice_made m ty c x y = made m ty (conditional c x y)

abbrev pub chosen : Modes → PlainExpr → Operand → Operand → Option Operand
chosen m c x y =
    with_one (choice_type x y) (λ ty. valued (choice_made m ty c (in_type m ty x) (in_type m ty y)))

-- ---- casts

-- between numbers, between pointers to one type whose spaces nest, or from the null constant to a pointer
abbrev pub castable : PlainType → Bool → PlainType → Bool
castable from zero to =
    is_arithmetic from && is_arithmetic to || zero && is_pointer to || same_pointee from to && nest from to

-- 31
abbrev pub no_cast : Option PlainType → Option Operand → Bool
no_cast (Some to) (Some x) = not (castable (value_type x) (is_null x) to)
no_cast to x = false

abbrev pub cast_rules : Option PlainType → Option Operand → ℕ → List Judgement
cast_rules to x at = rule 31 (no_cast to x) at ∷ []

abbrev pub cast : Modes → PlainType → Operand → Option Operand
cast m to x = if castable (value_type x) (is_null x) to then valued (in_type m to x) else None

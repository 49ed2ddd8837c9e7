-- What prefix operators, steps, subscripts, members and assignments make of their operands, and what these break (ISO/IEC
-- 9899:1999, 6.5.2, 6.5.3 and 6.5.16; ISO/IEC TR 18037:2008, 4.1.4 and 5.1).
use Rattle.std.specs.Prelude.{ℕ, Bool, true, false, not, ◌&&◌, ◌||◌, if◌then◌else◌, Option}
use Rattle.std.specs.Prelude.{Some, None, List, [], ◌∷◌}
use Rattle.ec_check_operands.specs.Faults.{Judgement, rule}
use Rattle.ec_fx.specs.declared.numbers.Mode.{Mode}
use Rattle.ec_core.specs.declared.arithmetic_types.Arithmetic.{Arithmetic}
use Rattle.ec_core.specs.declared.expressions.BinOp.{BinOp}
use Rattle.ec_core.specs.declared.expressions.UnOp.{UnOp}
use Rattle.ec_core.specs.ArithmeticTypes.{arithmetic_of, type_of}
use Rattle.ec_core.specs.Operators.{promoted_type, operation_types}
use Rattle.ec_core.specs.Plain.{PlainType, PlainPlace, void, pointer, array, struct}
use Rattle.ec_core.specs.Plain.{PlainExpr, expression, address_of, unary, assign, compound, step}
use Rattle.ec_core.specs.Plain.{logical_not, comma, deref}
use Rattle.ec_core.specs.Typing.{int, type_of_expr}
use Rattle.ec_check_operands.specs.declared.operands.Modes.{Modes}
use Rattle.ec_check_forms.specs.declared.prefixes.PrefixOp.{PrefixOp}
use Rattle.ec_check_forms.specs.declared.prefixes.PrefixOp.TheVariants.{Address, Deref, Plus, Minus, Invert, Not}
use Rattle.ec_check_operands.specs.Operands.{Operand, place, value, made, mode_of, value_type, as_value, converted}
use Rattle.ec_check_operands.specs.Operands.{valued, with_one}
use Rattle.ec_check_operands.specs.Operators.{suits, unsuited}
use Rattle.ec_check_operands.specs.Passing.{brought, passing_rules}
use Rattle.ec_check_operands.specs.Sorts.{is_void, is_arithmetic, is_integer, is_pointer, is_scalar, is_struct}
use Rattle.ec_check_operands.specs.Sorts.{is_aggregate}
use Rattle.ec_core.specs.declared.expressions.UnOp.TheVariants as unary_operators

-- ---- values that are used

-- 40
abbrev pub void_used : Option Operand → Bool
void_used None = false
void_used (Some x) = is_void (value_type x)

abbrev pub use_rules : Option Operand → ℕ → List Judgement
use_rules x at = rule 40 (void_used x) at ∷ []

-- a void value that is used has no type
abbrev pub used : Option Operand → Option Operand
used None = None
used (Some x) = if is_void (value_type x) then None else Some x

-- 40: the parts of a comma, an expression statement, and the first and last part of a `for`
abbrev pub struct_part : Option Operand → Bool
struct_part None = false
struct_part (Some x) = is_struct (value_type x)

abbrev pub part_rules : Option Operand → ℕ → List Judgement
part_rules x at = rule 40 (struct_part x) at ∷ []

abbrev pub used_part : Option Operand → Option Operand
used_part None = None
used_part (Some x) = if is_struct (value_type x) then None else Some x

-- 25, and 23 of steps
abbrev pub no_scalar : Option Operand → Bool
no_scalar None = false
no_scalar (Some x) = not (is_scalar (value_type x))

abbrev pub condition_rules : Option Operand → ℕ → List Judgement
condition_rules x at = rule 25 (no_scalar x) at ∷ []

-- a condition is not converted
abbrev pub condition : Modes → Option Operand → Option PlainExpr
condition m x = with_one x (λ x. if is_scalar (value_type x) then Some (as_value m x) else None)

-- ---- prefix operators

-- 26 and 33
abbrev pub is_value : Operand → Bool
is_value (place ty konst space register q) = false
is_value (value e zero) = true

abbrev pub is_register : Operand → Bool
is_register (place ty konst space register q) = register
is_register (value e zero) = false

abbrev pub prefix_rules : PrefixOp → Option Operand → ℕ → List Judgement
prefix_rules op None at = []
prefix_rules Address (Some x) at = rule 26 (is_value x) at ∷ rule 33 (is_register x) at ∷ []
prefix_rules Deref (Some x) at = rule 34 (not (is_pointer (value_type x))) at ∷ []
prefix_rules Plus (Some x) at = rule 23 (not (is_arithmetic (value_type x))) at ∷ []
prefix_rules Minus (Some x) at = rule 23 (not (is_arithmetic (value_type x))) at ∷ []
prefix_rules Invert (Some x) at = rule 23 (not (is_integer (value_type x))) at ∷ []
prefix_rules Not (Some x) at = rule 25 (not (is_scalar (value_type x))) at ∷ []

abbrev pub address : Modes → Operand → Option Operand
address m (place ty konst space false q) = valued (made m (pointer space konst ty) (address_of q))
address m x = None

-- what a pointer points to
abbrev pub pointed : PlainExpr → Option Operand
pointed (expression (pointer s k t) mode node) = Some (place t k s false (deref (expression (pointer s k t) mode node)))
pointed e = None

-- unary `+` is the promotion alone
abbrev pub plus : Modes → PlainExpr → Option Operand
plus m e = with_one (arithmetic_of (type_of_expr e)) (λ t. valued (converted m (type_of (promoted_type t)) e))

abbrev pub suits_unary : UnOp → Arithmetic → Bool
suits_unary unary_operators.Minus t = true
suits_unary unary_operators.Invert t = is_integer (type_of t)

abbrev pub unary_operation : Modes → UnOp → PlainExpr → Option Operand
unary_operation m op e =
    with_one (arithmetic_of (type_of_expr e)) (λ t. if suits_unary op t then
    valued (made m (type_of (promoted_type t)) (unary op (converted m (type_of (promoted_type t)) e))) else None)

abbrev pub negated : Modes → Option PlainExpr → Option Operand
negated m e = with_one e (λ e. valued (made m int (logical_not e)))

abbrev pub prefixed : Modes → PrefixOp → Operand → Option Operand
prefixed m Address x = address m x
prefixed m Deref x = pointed (as_value m x)
prefixed m Plus x = plus m (as_value m x)
prefixed m Minus x = unary_operation m unary_operators.Minus (as_value m x)
prefixed m Invert x = unary_operation m unary_operators.Invert (as_value m x)
prefixed m Not x = negated m (condition m (Some x))

-- ---- assignments

-- 26: no place, or one that is an array or a struct
abbrev pub unassigned : Option Operand → Bool
unassigned None = false
unassigned (Some (place ty konst space register q)) = is_aggregate ty
unassigned (Some (value e zero)) = true

-- 27
abbrev pub const_assigned : Option Operand → Bool
const_assigned None = false
const_assigned (Some (place ty konst space register q)) = konst
const_assigned (Some (value e zero)) = false

abbrev pub type_of_place : Option Operand → Option PlainType
type_of_place None = None
type_of_place (Some (place ty konst space register q)) = Some ty
type_of_place (Some (value e zero)) = None

abbrev pub assignment_rules : Option Operand → Option Operand → ℕ → List Judgement
assignment_rules x y at =
    rule 26 (unassigned x) at ∷ rule 27 (const_assigned x) at ∷ passing_rules y (type_of_place x) at

abbrev pub assigned_at : Modes → PlainType → PlainPlace → Operand → Option Operand
assigned_at m ty q y = with_one (brought m ty y) (λ e. valued (made m ty (assign q e)))

abbrev pub assigned : Modes → Operand → Operand → Option Operand
assigned m (place ty konst space register q) y = if konst || is_aggregate ty then None else assigned_at m ty q y
assigned m (value e zero) y = None

-- 28: the result of a compound assignment with a pointer on the right cannot be brought to its place
abbrev pub pointer_added : Option Operand → Option Operand → Bool
pointer_added (Some x) (Some y) = is_pointer (value_type y)
pointer_added x y = false

abbrev pub compound_rules : BinOp → Option Operand → Option Operand → ℕ → List Judgement
compound_rules op x y at =
    rule 23 (unsuited op x y) at ∷ rule 26 (unassigned x) at ∷ rule 27 (const_assigned x) at
    ∷ rule 28 (pointer_added x y) at ∷ []

-- the mode of the operation in a compound assignment is that of its result's type
abbrev pub operation_mode : Modes → BinOp → Option Arithmetic → Option Arithmetic → Mode
operation_mode m op (Some s) (Some t) = mode_of m (type_of (operation_types op s t).result)
operation_mode m op s t = record { saturate = false }

-- the right side is not converted
abbrev pub compounded_at : Modes → BinOp → PlainType → PlainPlace → Operand → Option Operand
compounded_at m op ty q y =
    valued (made m ty
    (compound op (operation_mode m op (arithmetic_of ty) (arithmetic_of (value_type y))) q (as_value m y)))

abbrev pub compounded : Modes → BinOp → Operand → Operand → Option Operand
compounded m op (place ty konst space register q) y =
    if konst || is_aggregate ty || is_pointer (value_type y) || not (suits op ty (value_type y)) then None
    else compounded_at m op ty q y
compounded m op (value e zero) y = None

abbrev pub step_rules : Option Operand → ℕ → List Judgement
step_rules x at = rule 23 (no_scalar x) at ∷ rule 26 (unassigned x) at ∷ rule 27 (const_assigned x) at ∷ []

abbrev pub stepped : Modes → Bool → Bool → Operand → Option Operand
stepped m up prefix (place ty konst space register q) =
    if is_scalar ty && not konst then valued (made m ty (step up prefix q)) else None
stepped m up prefix (value e zero) = None

-- Binary operators on two operands: what they break, and what they make (ISO/IEC 9899:1999, 6.5.5 to 6.5.12; ISO/IEC TR
-- 18037:2008, 4.1.4 and 5.1).
use Rattle.std.specs.Prelude.{Bool, true, false}
use Rattle.ec_core.specs.declared.expressions.BinOp.{BinOp}
use Rattle.ec_core.specs.declared.expressions.BinOp.TheVariants.{Add, Sub, Mul, Div, Rem, Shl, Shr, And, Or, Xor}
use Rattle.ec_core.specs.Plain.{PlainType}
use Rattle.ec_check_operands.specs.Sorts.{is_arithmetic, is_scalar, is_integer, is_one_byte}
use Rattle.std.specs.Prelude.{ℕ, not, ◌&&◌, ◌||◌, if◌then◌else◌, Option, Some, None, List, [], ◌∷◌}
use Rattle.ec_check_operands.specs.Faults.{Judgement, rule}
use Rattle.ec_space.specs.declared.space.SpaceId.{SpaceId}
use Rattle.ec_space.specs.Spaces.{join}
use Rattle.ec_core.specs.declared.arithmetic_types.Arithmetic.{Arithmetic}
use Rattle.ec_core.specs.declared.arithmetic_types.Arithmetic.TheVariants.{Integer, Fixed}
use Rattle.ec_core.specs.declared.expressions.BinOp.TheVariants.{Lt, Gt, Le, Ge, Eq, Ne}
use Rattle.ec_core.specs.ArithmeticTypes.{arithmetic_of, type_of, common}
use Rattle.ec_core.specs.ArithmeticValues.{is_comparison}
use Rattle.ec_core.specs.Operators.{OperationTypes, converted_beside, promoted_type}
use Rattle.ec_core.specs.Plain.{pointer, PlainExpr, expression}
use Rattle.ec_core.specs.Plain.{null, binary}
use Rattle.ec_core.specs.TypeLaws.{factor_beside, compared_beside}
use Rattle.ec_core.specs.Typing.{int, type_of_expr, pointer_space}
use Rattle.ec_check_operands.specs.declared.operands.Modes.{Modes}
use Rattle.ec_check_operands.specs.declared.meetings.Meeting.{Meeting}
use Rattle.ec_check_operands.specs.declared.meetings.Meeting.TheVariants.{Pointers, Mixed, Numbers, Nothing}
use Rattle.ec_check_operands.specs.declared.operators.Operation.{Operation}
use Rattle.ec_check_operands.specs.Operands.{Operand, made, value_type, as_value, is_null, converted, valued, with_one}
use Rattle.ec_check_operands.specs.Sorts.{is_pointer, same_pointee, nest}

-- an operand of this type suits the operator whatever the other one is; the Bool says that it is the left one
abbrev pub suits_alone : BinOp → (left : Bool) → PlainType → Bool
suits_alone Add left ty = is_scalar ty
suits_alone Sub left ty = is_scalar ty
suits_alone Mul left ty = is_one_byte ty
suits_alone Div left ty = is_arithmetic ty
suits_alone Rem left ty = is_integer ty
suits_alone Shl true ty = is_arithmetic ty
suits_alone Shl false ty = is_integer ty
suits_alone Shr true ty = is_arithmetic ty
suits_alone Shr false ty = is_integer ty
suits_alone And left ty = is_integer ty
suits_alone Or left ty = is_integer ty
suits_alone Xor left ty = is_integer ty
suits_alone op left ty = true

-- ---- rules

-- two types that suit `+` and `-` together; those of other operators suit them each alone
abbrev pub suit_together : BinOp → PlainType → PlainType → Bool
suit_together Add a b =
    is_arithmetic a && is_arithmetic b || is_pointer a && is_integer b || is_integer a && is_pointer b
suit_together Sub a b = is_arithmetic a && is_arithmetic b || is_pointer a && is_integer b || same_pointee a b
suit_together op a b = true

abbrev pub suits : BinOp → PlainType → PlainType → Bool
suits op a b = suits_alone op true a && suits_alone op false b && suit_together op a b

abbrev pub is_equality : BinOp → Bool
is_equality Eq = true
is_equality Ne = true
is_equality op = false

-- a pointer beside the null constant; the Bools say which of the two is the null constant
abbrev pub is_beside_null : PlainType → Bool → PlainType → Bool → Bool
is_beside_null a p b q = is_pointer a && q || p && is_pointer b

-- what can be compared
abbrev pub comparable : BinOp → PlainType → Bool → PlainType → Bool → Bool
comparable op a p b q =
    is_arithmetic a && is_arithmetic b || same_pointee a b || is_equality op && is_beside_null a p b q

-- pointers meet in a difference and in comparisons
abbrev pub meets : BinOp → Bool
meets Sub = true
meets op = is_comparison op

-- pointers to one type into spaces neither of which encloses the other
abbrev pub are_apart : PlainType → PlainType → Bool
are_apart a b = same_pointee a b && not (nest a b)

-- 23: where only one operand has a type, it is judged alone
abbrev pub unsuited : BinOp → Option Operand → Option Operand → Bool
unsuited op None None = false
unsuited op (Some x) None = not (suits_alone op true (value_type x))
unsuited op None (Some y) = not (suits_alone op false (value_type y))
unsuited op (Some x) (Some y) = not (suits op (value_type x) (value_type y))

-- 24
abbrev pub incomparable : BinOp → Option Operand → Option Operand → Bool
incomparable op (Some x) (Some y) =
    is_comparison op && not (comparable op (value_type x) (is_null x) (value_type y) (is_null y))
incomparable op x y = false

-- 32
abbrev pub meet_apart : BinOp → Option Operand → Option Operand → Bool
meet_apart op (Some x) (Some y) = meets op && are_apart (value_type x) (value_type y)
meet_apart op x y = false

abbrev pub operation_rules : BinOp → Option Operand → Option Operand → ℕ → List Judgement
operation_rules op x y at =
    rule 23 (unsuited op x y) at ∷ rule 24 (incomparable op x y) at ∷ rule 32 (meet_apart op x y) at ∷ []

-- ---- numbers

abbrev pub plain_operation : Operation → OperationTypes
plain_operation t = record { left = t.left; right = t.right; result = t.outcome }

-- the count of a shift is promoted by itself beside an integer, and stays as it is beside a fixed-point operand
abbrev pub count_beside : Arithmetic → Arithmetic → Arithmetic
count_beside (Integer x) y = promoted_type y
count_beside (Fixed x) y = y

-- what two numbers are converted to before an operation, and the type of its result
abbrev pub usual_types : Arithmetic → Arithmetic → OperationTypes
usual_types x y = record { left = converted_beside x y; right = converted_beside y x; result = common x y }

abbrev pub product_types : Arithmetic → Arithmetic → OperationTypes
product_types x y = record { left = factor_beside x y; right = factor_beside y x; result = common x y }

abbrev pub shift_types : Arithmetic → Arithmetic → OperationTypes
shift_types x y = record { left = promoted_type x; right = count_beside x y; result = promoted_type x }

abbrev pub comparison_types : Arithmetic → Arithmetic → OperationTypes
comparison_types x y = record {
  left = compared_beside x y;
  right = compared_beside y x;
  result = Integer (record { signed = true; bytes = 2 });
}

abbrev pub binary_types : BinOp → Arithmetic → Arithmetic → OperationTypes
binary_types Mul = product_types
binary_types Shl = shift_types
binary_types Shr = shift_types
binary_types Lt = comparison_types
binary_types Gt = comparison_types
binary_types Le = comparison_types
binary_types Ge = comparison_types
binary_types Eq = comparison_types
binary_types Ne = comparison_types
binary_types op = usual_types

abbrev pub number_operation : Modes → BinOp → OperationTypes → PlainExpr → PlainExpr → PlainExpr
number_operation m op t x y =
    made m (type_of t.result) (binary op (converted m (type_of t.left) x) (converted m (type_of t.right) y))

-- ---- pointers

-- a pointer in a space; it keeps its const
abbrev pub in_space : Modes → SpaceId → PlainExpr → PlainExpr
in_space m s (expression (pointer r k t) mode node) =
    converted m (pointer s k t) (expression (pointer r k t) mode node)
in_space m s e = e

-- two pointers, in the one of their spaces that encloses the other
abbrev pub pointer_operation : Modes → BinOp → Option SpaceId → PlainExpr → PlainExpr → Option PlainExpr
pointer_operation m op s x y = with_one s (λ s. Some (made m int (binary op (in_space m s x) (in_space m s y))))

-- a pointer and what stands beside it, in their order; the Bool says that the pointer is the left one
abbrev pub beside : Modes → BinOp → (left : Bool) → PlainType → PlainExpr → PlainExpr → PlainExpr
beside m op true ty p other = made m ty (binary op p other)
beside m op false ty p other = made m ty (binary op other p)

-- a pointer beside the null constant, and beside a number of elements
abbrev pub null_compared : Modes → BinOp → (left : Bool) → PlainExpr → PlainExpr
null_compared m op left p = beside m op left int p (made m (type_of_expr p) null)

abbrev pub moved : Modes → BinOp → (left : Bool) → PlainExpr → PlainExpr → PlainExpr
moved m op left p count = beside m op left (type_of_expr p) p count

abbrev pub mixed : Modes → BinOp → (left : Bool) → PlainExpr → PlainExpr → PlainExpr
mixed m op left p other = if is_comparison op then null_compared m op left p else moved m op left p other

abbrev pub mixed_operation : Modes → BinOp → (left : Bool) → PlainExpr → PlainExpr → PlainExpr
mixed_operation m op true x y = mixed m op true x y
mixed_operation m op false x y = mixed m op false y x

-- ---- how operands of two types meet: by the spaces of those that are pointers, and else as numbers

abbrev pub numbers_meet : Option Arithmetic → Option Arithmetic → Meeting
numbers_meet (Some s) (Some t) = Numbers s t
numbers_meet s t = Nothing

abbrev pub meeting_by : Option SpaceId → Option SpaceId → Meeting → Meeting
meeting_by (Some s) (Some r) numbers = Pointers (join s r)
meeting_by (Some s) None numbers = Mixed true
meeting_by None (Some r) numbers = Mixed false
meeting_by None None numbers = numbers

abbrev pub meeting : PlainType → PlainType → Meeting
meeting a b = meeting_by (pointer_space a) (pointer_space b) (numbers_meet (arithmetic_of a) (arithmetic_of b))

abbrev pub operation_by : Modes → BinOp → Meeting → PlainExpr → PlainExpr → Option PlainExpr
operation_by m op (Pointers s) x y = pointer_operation m op s x y
operation_by m op (Mixed left) x y = Some (mixed_operation m op left x y)
operation_by m op (Numbers s t) x y = Some (number_operation m op (binary_types op s t) x y)
operation_by m op Nothing x y = None

-- what an operator makes of its operands, where they break no rule
abbrev pub operated : Modes → BinOp → Option Operand → Option Operand → Option Operand
operated m op (Some x) (Some y) =
    if unsuited op (Some x) (Some y) || incomparable op (Some x) (Some y) || meet_apart op (Some x) (Some y) then None
    else with_one (operation_by m op (meeting (value_type x) (value_type y)) (as_value m x) (as_value m y)) valued
operated m op x y = None

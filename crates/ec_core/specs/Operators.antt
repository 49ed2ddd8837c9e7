-- Operators and conversions on values of any type (ISO/IEC 9899:1999, 6.3 and 6.5; ISO/IEC TR 18037:2008, 4.1).
use Rattle.std.specs.Prelude.{ℕ, ◌==◌, Bool, true, false, not, ◌&&◌, if◌then◌else◌, ℤ, pos, ◌-ℤ◌, unwrap_or, Result, Ok}
use Rattle.std.specs.Prelude.{Err}
use Rattle.std.specs.Ordering.{int_eq}
use Rattle.ec_fx.specs.declared.formats.FxKind.{FxKind}
use Rattle.ec_fx.specs.declared.numbers.Mode.{Mode}
use Rattle.ec_fx.specs.Formats.{format_of}
use Rattle.ec_space.specs.declared.space.SpaceId.{SpaceId}
use Rattle.ec_space.specs.Spaces.{encloses}
use Rattle.ec_core.specs.declared.arithmetic_types.Arithmetic.{Arithmetic}
use Rattle.ec_core.specs.declared.arithmetic_types.Arithmetic.TheVariants.{Integer, Fixed}
use Rattle.ec_core.specs.declared.expressions.BinOp.{BinOp}
use Rattle.ec_core.specs.declared.expressions.BinOp.TheVariants.{Add, Sub, Shl, Shr}
use Rattle.ec_core.specs.declared.expressions.UnOp.{UnOp}
use Rattle.ec_core.specs.declared.values.Referent.{Referent}
use Rattle.ec_core.specs.declared.values.Undefined.{Undefined}
use Rattle.ec_core.specs.declared.values.Undefined.TheVariants.{Invalid}
use Rattle.ec_core.specs.declared.values.Value.{Value}
use Rattle.ec_core.specs.declared.values.Value.TheVariants.{Number, Pointer}
use Rattle.ec_core.specs.ArithmeticTypes.{arithmetic_of, promoted, common_integer, signed_kind, common}
use Rattle.ec_core.specs.ArithmeticValues.{operand, arithmetic_value, unary_value, conversion_value, is_comparison}
use Rattle.ec_core.specs.Plain.{PlainType, void, integer, fixed, pointer, array, struct}
use Rattle.ec_core.specs.Pointers.{Pointer as PointerValue, sum_of_pointer, difference_of_pointers}
use Rattle.ec_core.specs.Pointers.{comparison_of_pointers, truth_of_pointer, pointer_in_space}

-- ---- types

abbrev pub same_bool : Bool → Bool → Bool
same_bool true b = b
same_bool false b = not b

abbrev pub same_space : SpaceId → SpaceId → Bool
same_space s t = encloses s t && encloses t s

-- kinds differ in their formats
abbrev pub same_kind : FxKind → FxKind → Bool
same_kind a b =
    same_bool (format_of a).signed (format_of b).signed && (format_of a).bits == (format_of b).bits
    && (format_of a).frac == (format_of b).frac

abbrev pub same_type : PlainType → PlainType → Bool
same_type void void = true
same_type (integer s m) (integer t n) = same_bool s t && m == n
same_type (fixed a s) (fixed b t) = same_kind a b && same_bool s t
same_type (pointer s c a) (pointer t d b) = same_space s t && same_bool c d && same_type a b
same_type (array a m) (array b n) = same_type a b && m == n
same_type (struct m) (struct n) = m == n
same_type a b = false

-- the type as an arithmetic one; where it is none, which no valid program has, int
abbrev pub number_type : PlainType → Arithmetic
number_type ty = unwrap_or (arithmetic_of ty) (Integer (record { signed = true; bytes = 2 }))

-- what stands for an operation on values that do not suit it, which no valid program has
abbrev pub unsuited : {A : Type 0} → Result A Undefined
unsuited = Err Invalid

-- ---- operands

-- an operand: its type, its value, and where it is a pointer, the size of what its type points to and what is known of
-- the instance that it points into
pub record Operand : Type 0 where
  pub ty : PlainType
  pub value : Value
  pub element : ℕ
  pub of : Referent

-- a result as a value
abbrev pub as_number : Result ℤ Undefined → Result Value Undefined
as_number (Ok n) = Ok (Number n)
as_number (Err point) = Err point

abbrev pub as_pointer : Result PointerValue Undefined → Result Value Undefined
as_pointer (Ok p) = Ok (Pointer p)
as_pointer (Err point) = Err point

-- ---- operators, on operands that were converted as the operator asks

abbrev pub unary_result : UnOp → PlainType → Mode → Value → Result Value Undefined
unary_result op ty mode (Number n) = as_number (unary_value op (number_type ty) mode n)
unary_result op ty mode (Pointer p) = unsuited

-- two pointers: their difference, or a comparison (6.5.6, 6.5.8, 6.5.9)
abbrev pub pointers_result : BinOp → Operand → PointerValue → Operand → PointerValue → Result Value Undefined
pointers_result op a p b q =
    as_number (if is_comparison op then comparison_of_pointers op p a.of q b.of
    else difference_of_pointers a.element p a.of q b.of)

-- a pointer and a number of elements (6.5.6)
abbrev pub offset_result : BinOp → Operand → PointerValue → ℤ → Result Value Undefined
offset_result Add a p n = as_pointer (sum_of_pointer p a.of n a.element)
offset_result Sub a p n = as_pointer (sum_of_pointer p a.of (pos 0 -ℤ n) a.element)
offset_result op a p n = unsuited

-- the value of a binary operator with this result type, on two operands with their values
abbrev pub binary_of : BinOp → PlainType → Mode → Operand → Value → Operand → Value → Result Value Undefined
binary_of op ty mode a (Number m) b (Number n) =
    as_number (arithmetic_value op (number_type ty) mode (operand (number_type a.ty) m) (operand (number_type b.ty) n))
binary_of op ty mode a (Pointer p) b (Pointer q) = pointers_result op a p b q
binary_of op ty mode a (Pointer p) b (Number n) = offset_result op a p n
binary_of op ty mode a (Number m) b (Pointer q) = offset_result op b q m

abbrev pub binary_result : BinOp → PlainType → Mode → Operand → Operand → Result Value Undefined
binary_result op ty mode a b = binary_of op ty mode a a.value b b.value

-- ---- conversions and conditions

-- a value in a type (6.3): numbers between arithmetic types, pointers between spaces
abbrev pub conversion_of : PlainType → Mode → Operand → Value → Result Value Undefined
conversion_of (pointer space const to) mode a (Pointer p) = as_pointer (pointer_in_space space p a.of)
conversion_of ty mode a (Pointer p) = unsuited
conversion_of ty mode a (Number n) = as_number (conversion_value (number_type ty) mode (operand (number_type a.ty) n))

abbrev pub conversion_result : PlainType → Mode → Operand → Result Value Undefined
conversion_result ty mode a = conversion_of ty mode a a.value

-- whether a value is unequal to 0, or not null (6.5.3.3, 6.8.4.1, 6.8.5)
abbrev pub truth_of : Operand → Value → Result Bool Undefined
truth_of a (Number n) = Ok (not (int_eq n (pos 0)))
truth_of a (Pointer p) = truth_of_pointer p a.of

abbrev pub truth_result : Operand → Result Bool Undefined
truth_result a = truth_of a a.value

-- ---- compound assignments, whose operands are not converted (6.5.16.2)

-- the type that an operand of one type is brought to beside one of another type: an integer beside an integer becomes
-- the common type, and an unsigned fixed-point type beside a signed one its signed counterpart (6.3.1.8; TR 18037,
-- 4.1.4)
abbrev pub converted_beside : Arithmetic → Arithmetic → Arithmetic
converted_beside (Integer x) (Integer y) = Integer (common_integer x y)
converted_beside (Integer x) (Fixed y) = Integer x
converted_beside (Fixed x) (Integer y) = Fixed x
converted_beside (Fixed x) (Fixed y) =
    Fixed (record { kind = if (format_of y.kind).signed then signed_kind x.kind else x.kind; sat = x.sat })

-- the operands of a shift are promoted, each by itself (6.5.7)
abbrev pub promoted_type : Arithmetic → Arithmetic
promoted_type (Integer x) = Integer (promoted x)
promoted_type (Fixed x) = Fixed x

-- the types of an operation on operands of two types: those that they are brought to, and that of the result
pub record OperationTypes : Type 0 where
  pub left : Arithmetic
  pub right : Arithmetic
  pub result : Arithmetic

abbrev pub operation_types : BinOp → Arithmetic → Arithmetic → OperationTypes
operation_types Shl x y = record { left = promoted_type x; right = y; result = promoted_type x }
operation_types Shr x y = record { left = promoted_type x; right = y; result = promoted_type x }
operation_types op x y = record { left = converted_beside x y; right = converted_beside y x; result = common x y }

-- goes on where there is a value
abbrev pub then_with : {A B : Type 0} → Result A Undefined → (A → Result B Undefined) → Result B Undefined
then_with (Ok x) go = go x
then_with (Err point) go = Err point

-- a number of one type in another
abbrev pub brought : Arithmetic → Mode → Arithmetic → ℤ → Result ℤ Undefined
brought to mode from n = conversion_value to mode (operand from n)

-- an operation on numbers of two types: both operands brought to their types, then the operation
abbrev pub operation_value : BinOp → OperationTypes → Mode → Arithmetic → ℤ → Arithmetic → ℤ → Result ℤ Undefined
operation_value op types mode x m y n =
    then_with (brought types.left mode x m)
    (λ a. then_with (brought types.right mode y n)
    (λ b. arithmetic_value op types.result mode (operand types.left a) (operand types.right b)))

-- the number that a compound assignment writes: the operation's result, converted to the type of the place
abbrev pub compound_value : BinOp → Mode → Mode → Arithmetic → ℤ → Arithmetic → ℤ → Result ℤ Undefined
compound_value op operation_mode mode x m y n =
    then_with (operation_value op (operation_types op x y) operation_mode x m y n)
    (λ r. brought x mode (operation_types op x y).result r)

-- the value that a compound assignment writes, from the old value of its place and its right side. The first mode is
-- that of the operation, and the second that of the conversion to the type of the place
abbrev pub compound_of : BinOp → Mode → Mode → Operand → Value → Operand → Value → Result Value Undefined
compound_of op operation_mode mode a (Number m) b (Number n) =
    as_number (compound_value op operation_mode mode (number_type a.ty) m (number_type b.ty) n)
compound_of op operation_mode mode a (Pointer p) b (Number n) = offset_result op a p n
compound_of op operation_mode mode a old b (Pointer q) = unsuited

abbrev pub compound_result : BinOp → Mode → Mode → Operand → Operand → Result Value Undefined
compound_result op operation_mode mode a b = compound_of op operation_mode mode a a.value b b.value

-- `++` and `--` add and subtract the int 1 (6.5.2.4, 6.5.3.1)
abbrev pub step_operator : Bool → BinOp
step_operator true = Add
step_operator false = Sub

-- Operations on two valid numbers are valid.
use Rattle.std.proofs.Common.{◌≡◌, ◌<◌, ℕ, Bool, true, false, refl, sym, ap, ◌∙◌, subst, inl, inr, arith}
use Rattle.std.specs.Prelude.{if◌then◌else◌, nat_lt, ◌⊎◌}
use Rattle.ec_iohw.specs.declared.table.IoTable.{IoTable}
use Rattle.ec_core.specs.declared.arithmetic_types.Arithmetic.{Arithmetic}
use Rattle.ec_core.specs.declared.arithmetic_types.Arithmetic.TheVariants.{Integer, Fixed}
use Rattle.ec_core.specs.declared.arithmetic_types.IntegerType.{IntegerType}
use Rattle.ec_core.specs.declared.expressions.BinOp.{BinOp}
use Rattle.ec_core.specs.declared.expressions.BinOp.TheVariants.{Add, Sub, Mul, Div, Rem, Shl, Shr, And, Or, Xor, Lt, Gt, Le, Ge, Eq, Ne}
use Rattle.ec_core.specs.ArithmeticTypes.{type_of, promoted, common}
use Rattle.ec_core.specs.ArithmeticValues.{IsKnownType}
use Rattle.ec_core.specs.Integers.{IsInteger as IsKnownInteger}
use Rattle.ec_core.specs.Laws.{TypesAreTold}
use Rattle.ec_core.specs.Layout.{IsScalar}
use Rattle.ec_core.specs.Operators.{OperationTypes, same_type, converted_beside, promoted_type}
use Rattle.ec_core.specs.Plain.{PlainType, PlainExpr, PlainProgram, convert, binary}
use Rattle.ec_core.specs.TypeLaws.{UsualConversions, factor_beside, compared_beside}
use Rattle.ec_core.specs.Typing.{type_of_expr, IsIntegerKind, IsOneByteType, AreConvertible, HaveArithmeticTypes, HaveShiftTypes}
use Rattle.ec_core.specs.Typing.{HaveBinaryTypes}
use Rattle.ec_core.specs.Valid.{IsExprType, ValidExpr}
use Rattle.ec_check_operands.specs.declared.operands.Modes.{Modes}
use Rattle.ec_check_forms.specs.Constraints.{IsInteger, HasOneByte, SuitsAlone, SuitTogether}
use Rattle.ec_check_operands.specs.Operands.{made, converted}
use Rattle.ec_check_operands.specs.Operators.{count_beside, usual_types, shift_types, comparison_types, binary_types, number_operation}

-- ---- types

pub is_scalar : (t : Arithmetic) → IsKnownType t → IsScalar (type_of t)
is_scalar (Integer t) k = k
is_scalar (Fixed t) k = tt

pub expr_type : (p : PlainProgram) (t : Arithmetic) → IsKnownType t → IsExprType p (type_of t)
expr_type p (Integer t) k = k
expr_type p (Fixed t) k = tt

pub convertible : (t u : Arithmetic) → AreConvertible (type_of t) (type_of u)
convertible (Integer t) (Integer u) = tt
convertible (Integer t) (Fixed u) = tt
convertible (Fixed t) (Integer u) = tt
convertible (Fixed t) (Fixed u) = tt

abbrev int_type : Arithmetic
int_type = Integer (record { signed = true; bytes = 2 })

promoted_known : (t : IntegerType) → IsKnownInteger t → IsKnownInteger (promoted t)
promoted_known t k = chosen (nat_lt t.bytes 2)
  where
    chosen : (b : Bool) → IsKnownInteger (if b then record { signed = true; bytes = 2 } else t)
    chosen true = inr (inl refl)
    chosen false = k

pub promotion_known : (t : Arithmetic) → IsKnownType t → IsKnownType (promoted_type t)
promotion_known (Integer t) k = promoted_known t k
promotion_known (Fixed t) k = tt

-- the types of an operation on two numbers that suit the operator
pub record HaveTypes (op : BinOp) (t : OperationTypes) : Type 0 where
  pub left : IsKnownType t.left
  pub right : IsKnownType t.right
  pub result : IsKnownType t.result
  pub typed : HaveArithmeticTypes op t.result t.left t.right

one_byte : (t : Arithmetic) → HasOneByte (type_of t) → IsOneByteType t
one_byte (Integer t) h = h
one_byte (Fixed t) h = h

pub integer_kind : (t : Arithmetic) → IsInteger (type_of t) → IsIntegerKind t
integer_kind (Integer t) h = tt
integer_kind (Fixed t) h = h

factor_known : UsualConversions → (x y : Arithmetic) → IsKnownType x → IsKnownType y → IsKnownType (factor_beside x y)
factor_known usual (Integer x) y j k = j
factor_known usual (Fixed x) y j k = (usual.suit (Fixed x) y j k).operand

compared_known : UsualConversions → (x y : Arithmetic) → IsKnownType x → IsKnownType y → IsKnownType (compared_beside x y)
compared_known usual (Integer x) y j k = (usual.suit (Integer x) y j k).operand
compared_known usual (Fixed x) y j k = j

count_known : (x y : Arithmetic) → IsKnownType y → IsKnownType (count_beside x y)
count_known (Integer x) y k = promotion_known y k
count_known (Fixed x) y k = k

-- two types that suit an operator
abbrev pub Suit : BinOp → PlainType → PlainType → Type 0
Suit op a b = SuitsAlone op true a × SuitsAlone op false b × SuitTogether op a b

usually : UsualConversions → (op : BinOp) (x y : Arithmetic) → IsKnownType x → IsKnownType y
    → HaveArithmeticTypes op (common x y) (converted_beside x y) (converted_beside y x) → HaveTypes op (usual_types x y)
usually usual op x y j k h = record {
  left = (usual.suit x y j k).operand;
  right = (usual.suit y x k j).operand;
  result = (usual.suit x y j k).result;
  typed = h;
}

comparing : UsualConversions → (op : BinOp) (x y : Arithmetic) → IsKnownType x → IsKnownType y
    → HaveArithmeticTypes op (Integer (record { signed = true; bytes = 2 })) (compared_beside x y) (compared_beside y x)
    → HaveTypes op (comparison_types x y)
comparing usual op x y j k h = record {
  left = compared_known usual x y j k;
  right = compared_known usual y x k j;
  result = inr (inl refl);
  typed = h;
}

shift_typed : UsualConversions → (x y : Arithmetic) → IsKnownType x → IsKnownType y → IsIntegerKind y
    → HaveShiftTypes (promoted_type x) (promoted_type x) (count_beside x y)
shift_typed usual (Integer x) y j k i = (usual.suit (Integer x) y j k).shifted i
shift_typed usual (Fixed x) y j k i = usual.counted x y i

shifting : UsualConversions → (op : BinOp) (x y : Arithmetic) → IsKnownType x → IsKnownType y
    → HaveArithmeticTypes op (promoted_type x) (promoted_type x) (count_beside x y) → HaveTypes op (shift_types x y)
shifting usual op x y j k h = record {
  left = promotion_known x j;
  right = count_known x y k;
  result = promotion_known x j;
  typed = h;
}

pub numbers_have_types : UsualConversions → (op : BinOp) (x y : Arithmetic) → IsKnownType x → IsKnownType y
    → Suit op (type_of x) (type_of y) → HaveTypes op (binary_types op x y)
numbers_have_types usual Add x y j k s = usually usual Add x y j k (usual.suit x y j k).usual
numbers_have_types usual Sub x y j k s = usually usual Sub x y j k (usual.suit x y j k).usual
numbers_have_types usual Mul x y j k s = record {
  left = factor_known usual x y j k;
  right = factor_known usual y x k j;
  result = (usual.suit x y j k).result;
  typed = (usual.suit x y j k).products (one_byte x s.0) (one_byte y s.1);
}
numbers_have_types usual Div x y j k s = usually usual Div x y j k (usual.suit x y j k).usual
numbers_have_types usual Rem x y j k s =
    usually usual Rem x y j k ((usual.suit x y j k).integers (integer_kind x s.0) (integer_kind y s.1))
numbers_have_types usual Shl x y j k s = shifting usual Shl x y j k (shift_typed usual x y j k (integer_kind y s.1))
numbers_have_types usual Shr x y j k s = shifting usual Shr x y j k (shift_typed usual x y j k (integer_kind y s.1))
numbers_have_types usual And x y j k s =
    usually usual And x y j k ((usual.suit x y j k).integers (integer_kind x s.0) (integer_kind y s.1))
numbers_have_types usual Or x y j k s =
    usually usual Or x y j k ((usual.suit x y j k).integers (integer_kind x s.0) (integer_kind y s.1))
numbers_have_types usual Xor x y j k s =
    usually usual Xor x y j k ((usual.suit x y j k).integers (integer_kind x s.0) (integer_kind y s.1))
numbers_have_types usual Lt x y j k s = comparing usual Lt x y j k ((usual.suit x y j k).compared int_type refl)
numbers_have_types usual Gt x y j k s = comparing usual Gt x y j k ((usual.suit x y j k).compared int_type refl)
numbers_have_types usual Le x y j k s = comparing usual Le x y j k ((usual.suit x y j k).compared int_type refl)
numbers_have_types usual Ge x y j k s = comparing usual Ge x y j k ((usual.suit x y j k).compared int_type refl)
numbers_have_types usual Eq x y j k s = comparing usual Eq x y j k ((usual.suit x y j k).compared int_type refl)
numbers_have_types usual Ne x y j k s = comparing usual Ne x y j k ((usual.suit x y j k).compared int_type refl)

-- ---- expressions

-- a valid expression of a known arithmetic type
pub record IsNumber (p : PlainProgram) (io : IoTable) (f : ℕ) (e : PlainExpr) (t : Arithmetic) : Type 0 where
  pub valid : ValidExpr p io f e
  pub ty : type_of_expr e ≡ type_of t
  pub known : IsKnownType t

pub converted_number : TypesAreTold → (p : PlainProgram) (io : IoTable) (f : ℕ) (m : Modes) (t u : Arithmetic)
    (e : PlainExpr) → IsNumber p io f e u → IsKnownType t → IsNumber p io f (converted m (type_of t) e) t
converted_number told p io f m t u e h k = chosen (same_type (type_of_expr e) (type_of t)) refl
  where
    chosen : (b : Bool) → same_type (type_of_expr e) (type_of t) ≡ b
        → IsNumber p io f (if b then e else made m (type_of t) (convert e)) t
    chosen true q = record { valid = h.valid; ty = told.same (type_of_expr e) (type_of t) q; known = k }
    chosen false q = record {
      valid = (
        expr_type p t k,
        (is_scalar t k, subst (λ (z : PlainType). AreConvertible (type_of t) z) (sym h.ty) (convertible t u)),
        h.valid,
      );
      ty = refl;
      known = k;
    }

binary_types_hold : (op : BinOp) (r t u : Arithmetic) → HaveArithmeticTypes op r t u
    → HaveBinaryTypes op (type_of r) (type_of t) (type_of u)
binary_types_hold op (Integer r) (Integer t) (Integer u) h = h
binary_types_hold op (Integer r) (Integer t) (Fixed u) h = h
binary_types_hold op (Integer r) (Fixed t) (Integer u) h = h
binary_types_hold op (Integer r) (Fixed t) (Fixed u) h = h
binary_types_hold op (Fixed r) (Integer t) (Integer u) h = h
binary_types_hold op (Fixed r) (Integer t) (Fixed u) h = h
binary_types_hold op (Fixed r) (Fixed t) (Integer u) h = h
binary_types_hold op (Fixed r) (Fixed t) (Fixed u) h = h

-- an operation on two numbers whose operands are converted to the types that the rules of typed programs ask for
pub valid_operation : TypesAreTold → (p : PlainProgram) (io : IoTable) (f : ℕ) (m : Modes) (op : BinOp)
    (types : OperationTypes) (s t : Arithmetic) (x y : PlainExpr) → IsNumber p io f x s → IsNumber p io f y t
    → HaveTypes op types → IsNumber p io f (number_operation m op types x y) types.result
valid_operation told p io f m op types s t x y hx hy h =
    let a = converted_number told p io f m types.left s x hx h.left in
    let b = converted_number told p io f m types.right t y hy h.right in
    let typed : HaveBinaryTypes op (type_of types.result) (type_of_expr (converted m (type_of types.left) x))
    (type_of_expr (converted m (type_of types.right) y)) =
    subst (λ (z : PlainType). HaveBinaryTypes op (type_of types.result) z
    (type_of_expr (converted m (type_of types.right) y))) (sym a.ty)
    (subst (λ (z : PlainType). HaveBinaryTypes op (type_of types.result) (type_of types.left) z) (sym b.ty)
    (binary_types_hold op types.result types.left types.right h.typed)) in
    record { valid = (expr_type p types.result h.result, typed, (a.valid, b.valid)); ty = refl; known = h.result }

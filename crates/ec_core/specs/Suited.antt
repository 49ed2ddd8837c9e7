-- That operators whose operands have their types meet the conditions of the calls that compute them.
use Rattle.std.specs.Prelude.{ℤ}
use Rattle.ec_core.specs.declared.arithmetic_types.Arithmetic.{Arithmetic}
use Rattle.ec_core.specs.declared.expressions.BinOp.{BinOp}
use Rattle.ec_core.specs.declared.expressions.UnOp.{UnOp}
use Rattle.ec_core.specs.ArithmeticValues.{HoldsNumber, operand, Suits, SuitsUnary, IsKnownType}
use Rattle.ec_core.specs.Operators.{OperationTypes, operation_types}
use Rattle.ec_core.specs.Typing.{HaveArithmeticTypes, HaveCompoundArithmetic, HaveUnaryTypes}

-- the types that the operands of a compound assignment are brought to, and an operation on any values of them
pub record AreOperationTypes (op : BinOp) (types : OperationTypes) : Type 0 where
  pub left : IsKnownType types.left
  pub right : IsKnownType types.right
  pub result : IsKnownType types.result
  pub suited : (m n : ℤ) → HoldsNumber types.left m → HoldsNumber types.right n
      → Suits op types.result (operand types.left m) (operand types.right n)

pub record OperandsSuit : Type 0 where
  pub unary : (op : UnOp) (ty : Arithmetic) → HaveUnaryTypes op ty → SuitsUnary op ty
  pub binary : (op : BinOp) (ty x y : Arithmetic) (m n : ℤ) → HaveArithmeticTypes op ty x y → HoldsNumber x m
      → HoldsNumber y n → Suits op ty (operand x m) (operand y n)
  pub compound : (op : BinOp) (x y : Arithmetic) → HaveCompoundArithmetic op x y → IsKnownType x → IsKnownType y
      → AreOperationTypes op (operation_types op x y)

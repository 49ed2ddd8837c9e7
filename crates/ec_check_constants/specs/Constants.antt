-- Constant expressions and their values (ISO/IEC 9899:1999, 6.6; ISO/IEC TR 18037:2008, 4.1).
use Rattle.std.specs.Prelude.{◌≡◌, ⊤, Bool, true, false, not, if◌then◌else◌, ℤ, pos, IsSomeAnd, Result, Ok, Err}
use Rattle.std.specs.Ordering.{int_eq}
use Rattle.ec_fx.specs.declared.numbers.Mode.{Mode}
use Rattle.ec_core.specs.declared.values.Undefined.{Undefined}
use Rattle.ec_core.specs.declared.values.Undefined.TheVariants.{Invalid}
use Rattle.ec_core.specs.ArithmeticTypes.{arithmetic_of}
use Rattle.ec_core.specs.ArithmeticValues.{HoldsNumber, operand, arithmetic_value, unary_value, conversion_value}
use Rattle.ec_core.specs.ArithmeticValues.{IsKnownType}
use Rattle.ec_core.specs.Integers.{truth}
use Rattle.ec_core.specs.Operators.{number_type, then_with}
use Rattle.ec_core.specs.Plain.{PlainType, PlainExpr, expression, PlainNode, number, unary, binary, convert}
use Rattle.ec_core.specs.Plain.{logical_not, logical_and, logical_or, conditional}
use Rattle.ec_core.specs.Typing.{int, type_of_expr, HaveArithmeticTypes, HaveUnaryTypes}

-- ---- constant expressions

abbrev mutual
  -- numbers, casts, unary and binary operators and `?:`, and nothing else
  pub HasConstantForm : PlainExpr → Type 0
  HasConstantForm (expression ty mode node) = IsConstantForm node

  pub IsConstantForm : PlainNode → Type 0
  IsConstantForm (number n) = ⊤
  IsConstantForm (unary op a) = HasConstantForm a
  IsConstantForm (binary op a b) = HasConstantForm a × HasConstantForm b
  IsConstantForm (convert a) = HasConstantForm a
  IsConstantForm (logical_not a) = HasConstantForm a
  IsConstantForm (logical_and a b) = HasConstantForm a × HasConstantForm b
  IsConstantForm (logical_or a b) = HasConstantForm a × HasConstantForm b
  IsConstantForm (conditional c a b) = HasConstantForm c × HasConstantForm a × HasConstantForm b
  IsConstantForm node = ⊥

-- an integer or fixed-point type
abbrev pub IsNumeric : PlainType → Type 0
IsNumeric ty = IsSomeAnd (arithmetic_of ty) IsKnownType

abbrev mutual
  -- an expression of that form whose nodes have arithmetic types that suit their operands
  pub IsConstant : PlainExpr → Type 0
  IsConstant (expression ty mode node) = IsNumeric ty × IsConstantNode ty node

  pub IsConstantNode : PlainType → PlainNode → Type 0
  IsConstantNode ty (number n) = HoldsNumber (number_type ty) n
  IsConstantNode ty (unary op a) = IsConstant a × (type_of_expr a ≡ ty) × HaveUnaryTypes op (number_type ty)
  IsConstantNode ty (binary op a b) =
      IsConstant a × IsConstant b
      × HaveArithmeticTypes op (number_type ty) (number_type (type_of_expr a)) (number_type (type_of_expr b))
  IsConstantNode ty (convert a) = IsConstant a
  IsConstantNode ty (logical_not a) = IsConstant a × (ty ≡ int)
  IsConstantNode ty (logical_and a b) = IsConstant a × IsConstant b × (ty ≡ int)
  IsConstantNode ty (logical_or a b) = IsConstant a × IsConstant b × (ty ≡ int)
  IsConstantNode ty (conditional c a b) =
      IsConstant c × IsConstant a × IsConstant b × (type_of_expr a ≡ ty) × (type_of_expr b ≡ ty)
  IsConstantNode ty node = ⊥

-- ---- values

-- a number as a condition
abbrev pub is_true : ℤ → Bool
is_true n = not (int_eq n (pos 0))

-- the value of `!!`
abbrev pub truth_of : Result ℤ Undefined → Result ℤ Undefined
truth_of r = then_with r (λ n. Ok (truth (is_true n)))

abbrev pub not_of : Result ℤ Undefined → Result ℤ Undefined
not_of r = then_with r (λ n. Ok (truth (not (is_true n))))

-- the second operand of `&&` and `||` plays a part only where it decides (6.5.13, 6.5.14)
abbrev pub and_of : Result ℤ Undefined → Result ℤ Undefined → Result ℤ Undefined
and_of r s = then_with r (λ n. if is_true n then truth_of s else Ok (truth false))

abbrev pub or_of : Result ℤ Undefined → Result ℤ Undefined → Result ℤ Undefined
or_of r s = then_with r (λ n. if is_true n then Ok (truth true) else truth_of s)

-- only one of the last two operands of `?:` plays a part (6.5.15)
abbrev pub choice_of : Result ℤ Undefined → Result ℤ Undefined → Result ℤ Undefined → Result ℤ Undefined
choice_of r s t = then_with r (λ n. if is_true n then s else t)

abbrev mutual
  -- the value of a constant expression, or the first point at which it is undefined: operators and conversions do to
  -- its numbers what they do in a run
  pub constant : PlainExpr → Result ℤ Undefined
  constant (expression ty mode node) = node_constant ty mode node

  pub node_constant : PlainType → Mode → PlainNode → Result ℤ Undefined
  node_constant ty mode (number n) = Ok n
  node_constant ty mode (unary op a) = then_with (constant a) (λ n. unary_value op (number_type ty) mode n)
  node_constant ty mode (binary op a b) =
      then_with (constant a) (λ m. then_with (constant b)
      (λ n. arithmetic_value op (number_type ty) mode (operand (number_type (type_of_expr a)) m)
      (operand (number_type (type_of_expr b)) n)))
  node_constant ty mode (convert a) =
      then_with (constant a)
      (λ n. conversion_value (number_type ty) mode (operand (number_type (type_of_expr a)) n))
  node_constant ty mode (logical_not a) = not_of (constant a)
  node_constant ty mode (logical_and a b) = and_of (constant a) (constant b)
  node_constant ty mode (logical_or a b) = or_of (constant a) (constant b)
  node_constant ty mode (conditional c a b) = choice_of (constant c) (constant a) (constant b)
  node_constant ty mode node = Err Invalid

-- Whether a typed expression is a constant expression, as a test of its types and numbers (ISO/IEC 9899:1999, 6.6).
use Rattle.std.specs.Prelude.{ℕ, ◌==◌, nat_lt, Bool, true, false, not, ◌&&◌, ◌||◌, ℤ, int_le}
use Rattle.ec_fx.specs.Formats.{format_of}
use Rattle.ec_fx.specs.Ranges.{least, greatest}
use Rattle.ec_core.specs.declared.arithmetic_types.Arithmetic.{Arithmetic}
use Rattle.ec_core.specs.declared.arithmetic_types.Arithmetic.TheVariants.{Integer, Fixed}
use Rattle.ec_core.specs.declared.expressions.BinOp.{BinOp}
use Rattle.ec_core.specs.declared.expressions.BinOp.TheVariants.{Add, Sub, Mul, Div, Rem, Shl, Shr, And, Or, Xor, Lt}
use Rattle.ec_core.specs.declared.expressions.BinOp.TheVariants.{Gt, Le, Ge, Eq, Ne}
use Rattle.ec_core.specs.declared.expressions.UnOp.{UnOp}
use Rattle.ec_core.specs.declared.expressions.UnOp.TheVariants.{Minus, Invert}
use Rattle.ec_core.specs.ArithmeticTypes.{arithmetic_of, type_of, common}
use Rattle.ec_core.specs.Integers.{width_of}
use Rattle.ec_core.specs.Operators.{number_type, same_bool, same_type}
use Rattle.ec_core.specs.Plain.{PlainType, void, integer, fixed, pointer, array, struct, PlainExpr, expression}
use Rattle.ec_core.specs.Plain.{PlainNode, number, unary, binary, convert, logical_not, logical_and, logical_or}
use Rattle.ec_core.specs.Plain.{conditional}
use Rattle.ec_core.specs.Typing.{int, type_of_expr}

-- ---- types

abbrev pub is_integer_size : ℕ → Bool
is_integer_size bytes = bytes == 1 || (bytes == 2 || bytes == 4)

abbrev pub is_numeric : PlainType → Bool
is_numeric void = false
is_numeric (integer signed bytes) = is_integer_size bytes
is_numeric (fixed kind saturates) = true
is_numeric (pointer space const to) = false
is_numeric (array of len) = false
is_numeric (struct index) = false

abbrev pub same_number_type : Arithmetic → Arithmetic → Bool
same_number_type x y = same_type (type_of x) (type_of y)

abbrev pub is_integer_kind : Arithmetic → Bool
is_integer_kind (Integer t) = true
is_integer_kind (Fixed t) = false

abbrev pub is_promoted : Arithmetic → Bool
is_promoted (Integer t) = not (nat_lt t.bytes 2)
is_promoted (Fixed t) = true

abbrev pub is_one_byte : Arithmetic → Bool
is_one_byte (Integer t) = t.bytes == 1
is_one_byte (Fixed t) = (format_of t.kind).bits == 8

abbrev pub have_one_signedness : Arithmetic → Arithmetic → Bool
have_one_signedness (Integer x) y = true
have_one_signedness (Fixed x) (Integer y) = true
have_one_signedness (Fixed x) (Fixed y) = same_bool (format_of x.kind).signed (format_of y.kind).signed

abbrev pub have_common_integer : Arithmetic → Arithmetic → Bool
have_common_integer (Integer x) (Integer y) =
    same_number_type (Integer x) (Integer y) && is_promoted (Integer x)
have_common_integer (Integer x) (Fixed y) = true
have_common_integer (Fixed x) y = true

-- ---- operators

abbrev pub have_usual_types : Arithmetic → Arithmetic → Arithmetic → Bool
have_usual_types ty x y =
    have_common_integer x y && (have_one_signedness x y && same_number_type ty (common x y))

abbrev pub have_product_types : Arithmetic → Arithmetic → Arithmetic → Bool
have_product_types ty x y =
    is_one_byte x && (is_one_byte y && (have_one_signedness x y && same_number_type ty (common x y)))

abbrev pub have_integer_types : Arithmetic → Arithmetic → Arithmetic → Bool
have_integer_types ty x y = is_integer_kind x && (is_integer_kind y && have_usual_types ty x y)

abbrev pub is_shift_count : Arithmetic → Arithmetic → Bool
is_shift_count (Integer x) y = is_integer_kind y && is_promoted y
is_shift_count (Fixed x) y = is_integer_kind y

abbrev pub have_shift_types : Arithmetic → Arithmetic → Arithmetic → Bool
have_shift_types ty x y = is_promoted x && (is_shift_count x y && same_number_type ty x)

abbrev pub have_compared_types : Arithmetic → Arithmetic → Arithmetic → Bool
have_compared_types ty x y = have_common_integer x y && same_type (type_of ty) int

abbrev pub have_arithmetic_types : BinOp → Arithmetic → Arithmetic → Arithmetic → Bool
have_arithmetic_types Add = have_usual_types
have_arithmetic_types Sub = have_usual_types
have_arithmetic_types Mul = have_product_types
have_arithmetic_types Div = have_usual_types
have_arithmetic_types Rem = have_integer_types
have_arithmetic_types Shl = have_shift_types
have_arithmetic_types Shr = have_shift_types
have_arithmetic_types And = have_integer_types
have_arithmetic_types Or = have_integer_types
have_arithmetic_types Xor = have_integer_types
have_arithmetic_types Lt = have_compared_types
have_arithmetic_types Gt = have_compared_types
have_arithmetic_types Le = have_compared_types
have_arithmetic_types Ge = have_compared_types
have_arithmetic_types Eq = have_compared_types
have_arithmetic_types Ne = have_compared_types

abbrev pub have_unary_types : UnOp → Arithmetic → Bool
have_unary_types Minus t = is_promoted t
have_unary_types Invert t = is_integer_kind t && is_promoted t

-- ---- numbers

abbrev pub is_within : Bool → ℕ → ℤ → Bool
is_within signed bits n = int_le (least signed bits) n && int_le n (greatest signed bits)

abbrev pub holds_number : Arithmetic → ℤ → Bool
holds_number (Integer t) n = is_integer_size t.bytes && is_within t.signed (width_of t) n
holds_number (Fixed t) n = is_within (format_of t.kind).signed (format_of t.kind).bits n

-- ---- expressions

abbrev mutual
  -- whether each node has an arithmetic type that suits its operands, and none speaks of an object
  pub is_constant : PlainExpr → Bool
  is_constant (expression ty mode node) = is_numeric ty && is_constant_node ty node

  pub is_constant_node : PlainType → PlainNode → Bool
  is_constant_node ty (number n) = holds_number (number_type ty) n
  is_constant_node ty (unary op a) =
      is_constant a && (same_type (type_of_expr a) ty && have_unary_types op (number_type ty))
  is_constant_node ty (binary op a b) =
      is_constant a && (is_constant b
      && have_arithmetic_types op (number_type ty) (number_type (type_of_expr a)) (number_type (type_of_expr b)))
  is_constant_node ty (convert a) = is_constant a
  is_constant_node ty (logical_not a) = is_constant a && same_type ty int
  is_constant_node ty (logical_and a b) = is_constant a && (is_constant b && same_type ty int)
  is_constant_node ty (logical_or a b) = is_constant a && (is_constant b && same_type ty int)
  is_constant_node ty (conditional c a b) =
      is_constant c && (is_constant a && (is_constant b
      && (same_type (type_of_expr a) ty && same_type (type_of_expr b) ty)))
  is_constant_node ty node = false

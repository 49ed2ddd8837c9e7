-- Which operands are converted, and to what (ISO/IEC 9899:1999, 6.3 and 6.5; ISO/IEC TR 18037:2008, 4.1.4 and 5.1.3): a
-- conversion leads straight to the type that is asked for, and stands exactly where that changes the type.
use Rattle.std.specs.Prelude.{◌≡◌, ◌≢◌, ◌⊎◌, Bool, true, false, ◌||◌, ⊤}
use Rattle.ec_fx.specs.Formats.{format_of}
use Rattle.ec_space.specs.declared.space.SpaceId.{SpaceId}
use Rattle.ec_space.specs.Spaces.{IsJoin}
use Rattle.ec_core.specs.declared.arithmetic_types.Arithmetic.{Arithmetic}
use Rattle.ec_core.specs.declared.arithmetic_types.Arithmetic.TheVariants.{Integer, Fixed}
use Rattle.ec_core.specs.declared.arithmetic_types.FixedType.{FixedType}
use Rattle.ec_core.specs.declared.arithmetic_types.IntegerType.{IntegerType}
use Rattle.ec_core.specs.declared.expressions.BinOp.{BinOp}
use Rattle.ec_core.specs.declared.expressions.BinOp.TheVariants.{Add, Sub, Mul, Div, Rem, Shl, Shr, And, Or, Xor}
use Rattle.ec_core.specs.ArithmeticTypes.{type_of, promoted, common_integer, common, signed_kind}
use Rattle.ec_core.specs.Operators.{promoted_type}
use Rattle.ec_core.specs.Plain.{PlainType, void, pointer, PlainExpr, null, convert, binary}
use Rattle.ec_core.specs.Typing.{int, type_of_expr}
use Rattle.ec_check_operands.specs.declared.operands.Modes.{Modes}
use Rattle.ec_check_operands.specs.Operands.{Operand, made, value_type, as_value, is_null}
use Rattle.ec_check_forms.specs.Constraints.{IsInteger, IsPointer, SuitsAlone, IsEquality, IsComparison, PointersMeet}
use Rattle.ec_check_forms.specs.Constraints.{Passes, LeavesSpace, LosesConst}

-- ---- to one type

-- the value in a type: under a conversion where it has another one, and else as it is
pub data IsConverted (m : Modes) (to : PlainType) (e : PlainExpr) : PlainExpr → Type 0 where
  as_it_is : type_of_expr e ≡ to → IsConverted m to e e
  changed : type_of_expr e ≢ to → IsConverted m to e (made m to (convert e))

-- An operand brought to a type: by `=`, as an argument, an initialiser or an operand of a port, by `return`, by a cast,
-- or as a branch of `?:`. The null constant where a pointer is asked for is a null pointer of that type (6.3.2.3).
pub data IsBrought (m : Modes) (to : PlainType) (x : Operand) : PlainExpr → Type 0 where
  null_pointer : is_null x ≡ true → IsPointer to → IsBrought m to x (made m to null)
  ordinary : {e : PlainExpr} → ¬ ((is_null x ≡ true) × IsPointer to) → IsConverted m to (as_value m x) e
      → IsBrought m to x e

-- an operand brought to a type by an implicit conversion: it passes between the types, and a pointer stays in its space
-- and keeps its const (6.5.16.1; TR 18037, 5.1.3)
pub record IsPassed (m : Modes) (to : PlainType) (x : Operand) (e : PlainExpr) : Type 0 where
  pub passes : Passes x to
  pub stays : ¬ LeavesSpace (value_type x) to
  pub keeps : ¬ LosesConst (value_type x) to
  pub brought : IsBrought m to x e

-- ---- two numbers

abbrev pub IsShift : BinOp → Type 0
IsShift Shl = ⊤
IsShift Shr = ⊤
IsShift op = ⊥

-- the operators that bring their operands to a common type: not `*`, whose factors have one byte, nor the shifts, whose
-- operands are promoted each by itself, nor the comparisons
abbrev pub TakesCommonType : BinOp → Type 0
TakesCommonType Add = ⊤
TakesCommonType Sub = ⊤
TakesCommonType Div = ⊤
TakesCommonType Rem = ⊤
TakesCommonType And = ⊤
TakesCommonType Or = ⊤
TakesCommonType Xor = ⊤
TakesCommonType op = ⊥

abbrev pub IsFixed : Arithmetic → Type 0
IsFixed (Integer x) = ⊥
IsFixed (Fixed x) = ⊤

-- a fixed-point operand beside another: beside a signed one it becomes its signed counterpart, which it is already where
-- it is signed itself
pub data Beside (x y : FixedType) : FixedType → Type 0 where
  signed : (format_of y.kind).signed ≡ true → Beside x y (record { kind = signed_kind x.kind; sat = x.sat })
  unsigned : (format_of y.kind).signed ≢ true → Beside x y x

-- Two numbers that are brought together (6.3.1.8; TR 18037, 4.1.4): two integers to their common type; an integer and a
-- fixed-point number not at all; and of two fixed-point numbers an unsigned one beside a signed one alone
pub data AreBalanced : (x y left right : Arithmetic) → Type 0 where
  two_integers : {s t : IntegerType}
      → AreBalanced (Integer s) (Integer t) (Integer (common_integer s t)) (Integer (common_integer s t))
  integer_first : {s : IntegerType} {y : FixedType} → AreBalanced (Integer s) (Fixed y) (Integer s) (Fixed y)
  integer_last : {x : FixedType} {t : IntegerType} → AreBalanced (Fixed x) (Integer t) (Fixed x) (Integer t)
  two_fixed : {x y u v : FixedType} → Beside x y u → Beside y x v → AreBalanced (Fixed x) (Fixed y) (Fixed u) (Fixed v)

-- the factors of a product (6.5.5): two integers stay as they are
pub data AreFactors : (x y left right : Arithmetic) → Type 0 where
  integer_factors : {s t : IntegerType} → AreFactors (Integer s) (Integer t) (Integer s) (Integer t)
  other_factors : {x y left right : Arithmetic} → IsFixed x ⊎ IsFixed y → AreBalanced x y left right
      → AreFactors x y left right

-- the operands of a shift (6.5.7): each is promoted by itself, and beside a fixed-point number the count stays as it is
pub data AreShifted : (x y left right : Arithmetic) → Type 0 where
  shifted_integers : {s t : IntegerType} → AreShifted (Integer s) (Integer t) (Integer (promoted s)) (Integer (promoted t))
  shifted_fixed : {x : FixedType} {t : IntegerType} → AreShifted (Fixed x) (Integer t) (Fixed x) (Integer t)

-- the operands of a comparison (6.5.8 and 6.5.9): beside a fixed-point number nothing is converted
pub data AreCompared : (x y left right : Arithmetic) → Type 0 where
  compared_integers : {s t : IntegerType}
      → AreCompared (Integer s) (Integer t) (Integer (common_integer s t)) (Integer (common_integer s t))
  other_compared : {x y : Arithmetic} → IsFixed x ⊎ IsFixed y → AreCompared x y x y

-- two numbers beside an operator: what each is brought to, and the type of the result
pub data Meet (op : BinOp) (x y : Arithmetic) : (left right result : Arithmetic) → Type 0 where
  balanced : {left right : Arithmetic} → TakesCommonType op → AreBalanced x y left right
      → Meet op x y left right (common x y)
  product : {left right : Arithmetic} → op ≡ Mul → AreFactors x y left right → Meet op x y left right (common x y)
  shift : {left right : Arithmetic} → IsShift op → AreShifted x y left right → Meet op x y left right left
  comparison : {left right : Arithmetic} → IsComparison op → AreCompared x y left right
      → Meet op x y left right (Integer (record { signed = true; bytes = 2 }))

-- the type of the result of an operator that is no comparison: a shift has that of its promoted left operand (6.5.7),
-- and all others the common type
pub data Results (op : BinOp) (x y : Arithmetic) : Arithmetic → Type 0 where
  of_shift : IsShift op → Results op x y (promoted_type x)
  of_both : ¬ IsShift op → Results op x y (common x y)

-- ---- two operands

-- `+` and `-`
abbrev pub MovesPointers : BinOp → Type 0
MovesPointers Add = ⊤
MovesPointers Sub = ⊤
MovesPointers op = ⊥

abbrev pub IsSum : BinOp → Type 0
IsSum Add = ⊤
IsSum op = ⊥

-- What a binary operator makes of two operands (6.5.5 to 6.5.12): of two numbers; of a pointer and an integer, which
-- stays as it is; of a pointer and the null constant, which becomes a null pointer of that type; or of two pointers, of
-- which the one in the enclosed space is brought to the other's, and each keeps its const.
pub data IsOperation (m : Modes) (op : BinOp) (a b : Operand) : PlainExpr → Type 0 where
  of_numbers : {s t left right result : Arithmetic} {e f : PlainExpr} → value_type a ≡ type_of s → value_type b ≡ type_of t
      → SuitsAlone op true (type_of s) → SuitsAlone op false (type_of t) → Meet op s t left right result
      → IsConverted m (type_of left) (as_value m a) e → IsConverted m (type_of right) (as_value m b) f
      → IsOperation m op a b (made m (type_of result) (binary op e f))
  pointer_first : MovesPointers op → IsPointer (value_type a) → IsInteger (value_type b)
      → IsOperation m op a b (made m (value_type a) (binary op (as_value m a) (as_value m b)))
  pointer_last : IsSum op → IsInteger (value_type a) → IsPointer (value_type b)
      → IsOperation m op a b (made m (value_type b) (binary op (as_value m a) (as_value m b)))
  null_first : IsEquality op → is_null a ≡ true → IsPointer (value_type b)
      → IsOperation m op a b (made m int (binary op (made m (value_type b) null) (as_value m b)))
  null_last : IsEquality op → IsPointer (value_type a) → is_null b ≡ true
      → IsOperation m op a b (made m int (binary op (as_value m a) (made m (value_type a) null)))
  two_pointers : {s r u : SpaceId} {k c : Bool} {to : PlainType} {e f : PlainExpr} → PointersMeet op
      → value_type a ≡ pointer s k to → value_type b ≡ pointer r c to → IsJoin s r u
      → IsConverted m (pointer u k to) (as_value m a) e → IsConverted m (pointer u c to) (as_value m b) f
      → IsOperation m op a b (made m int (binary op e f))

-- The type to which the second and third operands of `?:` are brought (6.5.15): of two pointers, the one in the space
-- that encloses the other, to const where one of both is.
pub data IsChoice (a b : Operand) : PlainType → Type 0 where
  of_void : value_type a ≡ void → value_type b ≡ void → IsChoice a b void
  number_branches : (s t : Arithmetic) → value_type a ≡ type_of s → value_type b ≡ type_of t
      → IsChoice a b (type_of (common s t))
  null_branch_first : is_null a ≡ true → IsPointer (value_type b) → IsChoice a b (value_type b)
  null_branch_last : IsPointer (value_type a) → is_null b ≡ true → IsChoice a b (value_type a)
  pointer_branches : {s r u : SpaceId} {k c : Bool} {to : PlainType} → value_type a ≡ pointer s k to
      → value_type b ≡ pointer r c to → IsJoin s r u → IsChoice a b (pointer u (k || c) to)

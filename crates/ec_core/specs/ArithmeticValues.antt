-- What operators and conversions do to numbers of arithmetic types (ISO/IEC 9899:1999, 6.3 and 6.5; ISO/IEC TR
-- 18037:2008, 4.1.3 to 4.1.7).
use Rattle.std.specs.Prelude.{◌≡◌, Bool, true, false, if◌then◌else◌, ℤ, unsigned_abs, ⊤, MatchBool, Result, Ok, Err}
use Rattle.std.specs.Option.{ok_or}
use Rattle.ec_fx.specs.declared.formats.Format.{Format}
use Rattle.ec_fx.specs.declared.numbers.Fixed.{Fixed as FixedNumber}
use Rattle.ec_fx.specs.declared.numbers.Fx.{Fx}
use Rattle.ec_fx.specs.declared.numbers.Fx.TheVariants.{Got, Overflow, ZeroDivisor as ByZero}
use Rattle.ec_fx.specs.declared.numbers.Mode.{Mode}
use Rattle.ec_fx.specs.declared.numbers.Num.{Num}
use Rattle.ec_fx.specs.declared.numbers.Num.TheVariants.{Whole, Fixed as FixedNum}
use Rattle.ec_fx.specs.Arithmetic.{sum_of, difference_of, product_of, quotient_of, shift_of, negation_of}
use Rattle.ec_fx.specs.Arithmetic.{IsResultFormat, IsOneByte}
use Rattle.ec_fx.specs.Conversions.{conversion_of, integer_of, order_of}
use Rattle.ec_fx.specs.Formats.{format_of}
use Rattle.ec_fx.specs.Numbers.{scaled}
use Rattle.ec_fx.specs.Ranges.{IsWithin}
use Rattle.ec_core.specs.declared.arithmetic_types.Arithmetic.{Arithmetic}
use Rattle.ec_core.specs.declared.arithmetic_types.Arithmetic.TheVariants.{Integer, Fixed}
use Rattle.ec_core.specs.declared.arithmetic_types.FixedType.{FixedType}
use Rattle.ec_core.specs.declared.expressions.BinOp.{BinOp}
use Rattle.ec_core.specs.declared.expressions.BinOp.TheVariants.{Add, Sub, Mul, Div, Shl, Shr, Lt, Gt, Le, Ge, Eq, Ne}
use Rattle.ec_core.specs.declared.expressions.UnOp.{UnOp}
use Rattle.ec_core.specs.declared.expressions.UnOp.TheVariants.{Minus, Invert}
use Rattle.ec_core.specs.declared.values.Undefined.{Undefined}
use Rattle.ec_core.specs.declared.values.Undefined.TheVariants.{ZeroDivisor, ShiftCount, FixedOverflow, WholePart}
use Rattle.ec_core.specs.Integers.{IsInteger, HoldsInteger, width_of, wrapped, is_count, integer_value, compared}
use Rattle.ec_core.specs.Integers.{negation, complement}

-- ---- numbers of a type

abbrev pub HoldsFixed : FixedType → ℤ → Type 0
HoldsFixed t n = IsWithin (format_of t.kind).signed (format_of t.kind).bits n

-- the number is a value of the type
abbrev pub HoldsNumber : Arithmetic → ℤ → Type 0
HoldsNumber (Integer t) n = IsInteger t × HoldsInteger t n
HoldsNumber (Fixed t) n = HoldsFixed t n

abbrev pub fixed_number : FixedType → ℤ → FixedNumber
fixed_number t n = record { format = format_of t.kind; n = n }

-- the number with its binary point, as an operand of exact arithmetic
abbrev pub operand : Arithmetic → ℤ → Num
operand (Integer t) n = Whole n
operand (Fixed t) n = FixedNum (fixed_number t n)

-- ---- operators on fixed-point operands

-- a result out of range that does not saturate, and a zero divisor, are undefined
abbrev pub outcome : Fx → Result ℤ Undefined
outcome (Got x) = Ok x.n
outcome Overflow = Err FixedOverflow
outcome ByZero = Err ZeroDivisor

abbrev pub fixed_shift : Bool → FixedNumber → ℤ → Mode → Result ℤ Undefined
fixed_shift left x count mode =
    if is_count x.format.bits count then outcome (shift_of x (unsigned_abs count) left mode) else Err ShiftCount

-- a fixed-point value is shifted by a whole number; other operands no program has
abbrev pub shift_value : Bool → Num → Num → Mode → Result ℤ Undefined
shift_value left (FixedNum x) (Whole count) mode = fixed_shift left x count mode
shift_value left (FixedNum x) (FixedNum y) mode = Err ShiftCount
shift_value left (Whole n) b mode = Err ShiftCount

-- an operator with a result of the format; the operators that are not named have no fixed-point operands
abbrev pub fixed_value : BinOp → Format → Num → Num → Mode → Result ℤ Undefined
fixed_value Add to a b mode = outcome (sum_of a b to mode)
fixed_value Sub to a b mode = outcome (difference_of a b to mode)
fixed_value Mul to a b mode = outcome (product_of a b to mode)
fixed_value Div to a b mode = outcome (quotient_of a b to mode)
fixed_value Shl to a b mode = shift_value true a b mode
fixed_value Shr to a b mode = shift_value false a b mode
fixed_value op to a b mode = compared op (order_of a b)

-- a shift's left operand has the result's format, and its count is whole
abbrev pub IsShift : Num → Num → Format → Type 0
IsShift (FixedNum x) (Whole count) to = x.format ≡ to
IsShift (FixedNum x) (FixedNum y) to = ⊥
IsShift (Whole n) b to = ⊥

-- the operands suit the operator, and the result has the format. A product's operands have one byte
abbrev pub SuitsFixed : BinOp → Num → Num → Format → Type 0
SuitsFixed Add a b to = IsResultFormat a b to
SuitsFixed Sub a b to = IsResultFormat a b to
SuitsFixed Mul a b to = IsResultFormat a b to × IsOneByte a × IsOneByte b
SuitsFixed Div a b to = IsResultFormat a b to
SuitsFixed Shl a b to = IsShift a b to
SuitsFixed Shr a b to = IsShift a b to
SuitsFixed op a b to = ⊥

-- ---- operators on numbers

abbrev pub is_comparison : BinOp → Bool
is_comparison Lt = true
is_comparison Gt = true
is_comparison Le = true
is_comparison Ge = true
is_comparison Eq = true
is_comparison Ne = true
is_comparison op = false

-- an operator other than a comparison, with a result of the type
abbrev pub typed_value : BinOp → Arithmetic → Mode → Num → Num → Result ℤ Undefined
typed_value op (Integer t) mode a b = integer_value op t (scaled a) (scaled b)
typed_value op (Fixed t) mode a b = fixed_value op (format_of t.kind) a b mode

-- a comparison compares the exact values, without a conversion of either
abbrev pub arithmetic_value : BinOp → Arithmetic → Mode → Num → Num → Result ℤ Undefined
arithmetic_value op ty mode a b = if is_comparison op then compared op (order_of a b) else typed_value op ty mode a b

abbrev pub IsWholeOperand : Num → Type 0
IsWholeOperand (Whole n) = ⊤
IsWholeOperand (FixedNum x) = ⊥

abbrev pub SuitsTyped : BinOp → Arithmetic → Num → Num → Type 0
SuitsTyped op (Integer t) a b = IsInteger t × IsWholeOperand a × IsWholeOperand b
SuitsTyped op (Fixed t) a b = SuitsFixed op a b (format_of t.kind)

abbrev pub IsIntegerResult : Arithmetic → Type 0
IsIntegerResult (Integer t) = IsInteger t
IsIntegerResult (Fixed t) = ⊥

-- the operands suit the operator and its result's type, which is an integer type for a comparison
abbrev pub Suits : BinOp → Arithmetic → Num → Num → Type 0
Suits op ty a b = MatchBool (is_comparison op) (IsIntegerResult ty) (SuitsTyped op ty a b)

abbrev pub unary_value : UnOp → Arithmetic → Mode → ℤ → Result ℤ Undefined
unary_value Minus (Integer t) mode n = Ok (negation t n)
unary_value Invert (Integer t) mode n = Ok (complement t n)
unary_value Minus (Fixed t) mode n = outcome (negation_of (fixed_number t n) mode)
unary_value Invert (Fixed t) mode n = Ok n

-- `~` takes integers only
abbrev pub SuitsUnary : UnOp → Arithmetic → Type 0
SuitsUnary Minus ty = ⊤
SuitsUnary Invert (Integer t) = ⊤
SuitsUnary Invert (Fixed t) = ⊥

-- ---- conversions

-- integers wrap; a fixed-point value becomes an integer without what stands behind the point, if the type holds it;
-- what becomes a fixed-point value is rounded, and out of range is clamped or undefined by the mode
abbrev pub conversion_value : Arithmetic → Mode → Num → Result ℤ Undefined
conversion_value (Integer t) mode (Whole n) = Ok (wrapped t n)
conversion_value (Integer t) mode (FixedNum x) = ok_or (integer_of x t.signed (width_of t)) WholePart
conversion_value (Fixed t) mode a = outcome (conversion_of a (format_of t.kind) mode)

abbrev pub IsKnownType : Arithmetic → Type 0
IsKnownType (Integer t) = IsInteger t
IsKnownType (Fixed t) = ⊤

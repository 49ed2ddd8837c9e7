-- What operators on numbers and pointers meet is one of the fourteen points of the language.
use Rattle.std.proofs.Common.{◌≡◌, ◌+ℤ◌, ◌*ℤ◌, ◌^◌, Bool, true, false, ◌&&◌, ℕ, ℤ, pos, unsigned_abs, Option, Some, None, Result, Ok, Err}
use Rattle.std.specs.Prelude.{⊤, ◌==◌, if◌then◌else◌, int_le, int_div, int_rem}
use Rattle.std.specs.Int.{int_div_euclid}
use Rattle.std.specs.Ordering.{int_eq}
use Rattle.std.specs.Option.{ok_or}
use Rattle.ec_fx.specs.declared.formats.Format.{Format}
use Rattle.ec_fx.specs.declared.numbers.Fx.{Fx}
use Rattle.ec_fx.specs.declared.numbers.Fx.TheVariants.{Got, Overflow, ZeroDivisor as ByZero}
use Rattle.ec_fx.specs.declared.numbers.Mode.{Mode}
use Rattle.ec_fx.specs.declared.numbers.Num.{Num}
use Rattle.ec_fx.specs.declared.numbers.Num.TheVariants.{Whole, Fixed as FixedNum}
use Rattle.ec_fx.specs.Arithmetic.{sum_of, difference_of, product_of, quotient_of, shift_of, negation_of}
use Rattle.ec_fx.specs.Conversions.{integer_of, conversion_of, order_of}
use Rattle.ec_fx.specs.Formats.{format_of}
use Rattle.ec_fx.specs.Numbers.{scaled}
use Rattle.ec_core.specs.declared.arithmetic_types.Arithmetic.{Arithmetic}
use Rattle.ec_core.specs.declared.arithmetic_types.Arithmetic.TheVariants.{Integer, Fixed}
use Rattle.ec_core.specs.declared.arithmetic_types.IntegerType.{IntegerType}
use Rattle.ec_core.specs.declared.expressions.BinOp.{BinOp}
use Rattle.ec_core.specs.declared.expressions.BinOp.TheVariants.{Add, Sub, Mul, Div, Rem, Shl, Shr, And, Or, Xor, Lt, Gt, Le, Ge, Eq, Ne}
use Rattle.ec_core.specs.declared.expressions.UnOp.{UnOp}
use Rattle.ec_core.specs.declared.expressions.UnOp.TheVariants.{Minus, Invert}
use Rattle.ec_core.specs.declared.values.ObjectPointer.{ObjectPointer}
use Rattle.ec_core.specs.declared.values.Referent.{Referent}
use Rattle.ec_core.specs.declared.values.Undefined.{Undefined}
use Rattle.ec_core.specs.declared.values.Undefined.TheVariants.{ZeroDivisor, ShiftCount, PointerUse, PointerRange, WholePart, Invalid}
use Rattle.ec_core.specs.declared.values.Value.{Value}
use Rattle.ec_core.specs.declared.values.Value.TheVariants.{Number, Pointer}
use Rattle.ec_core.specs.ArithmeticValues.{operand, fixed_number, outcome, shift_value, fixed_value, typed_value, arithmetic_value}
use Rattle.ec_core.specs.ArithmeticValues.{unary_value, conversion_value, is_comparison}
use Rattle.ec_core.specs.Integers.{width_of, wrapped, is_count, compared, integer_value}
use Rattle.ec_core.specs.Operators.{Operand, OperationTypes, operation_types, then_with, brought, operation_value, compound_value, truth_of}
use Rattle.ec_core.specs.Pointers.{Pointer as PointerValue, used, displaced, moved, same_instance, is_at_end, apart, equality}
use Rattle.ec_core.specs.Pointers.{truth_of_pointer}

abbrev pub IsPoint : Undefined → Type 0
IsPoint Invalid = ⊥
IsPoint point = ⊤

-- a result, or one of the fourteen points
abbrev pub HasPoint : {A : Type 0} → Result A Undefined → Type 0
HasPoint (Ok x) = ⊤
HasPoint (Err point) = IsPoint point

-- ---- numbers

err_else : (b : Bool) (point : Undefined) (n : ℤ) → IsPoint point → HasPoint (if b then Err point else Ok n)
err_else true point n h = h
err_else false point n h = tt

else_err : (b : Bool) (point : Undefined) (n : ℤ) → IsPoint point → HasPoint (if b then Ok n else Err point)
else_err true point n h = tt
else_err false point n h = h

integer_point : (op : BinOp) (t : IntegerType) (a b : ℤ) → HasPoint (integer_value op t a b)
integer_point Add t a b = tt
integer_point Sub t a b = tt
integer_point Mul t a b = tt
integer_point Div t a b = err_else (int_eq b (pos 0)) ZeroDivisor (wrapped t (int_div a b)) tt
integer_point Rem t a b = err_else (int_eq b (pos 0)) ZeroDivisor (wrapped t (int_rem a b)) tt
integer_point Shl t a b = else_err (is_count (width_of t) b) ShiftCount (wrapped t (a *ℤ pos (2 ^ unsigned_abs b))) tt
integer_point Shr t a b = else_err (is_count (width_of t) b) ShiftCount (wrapped t (int_div_euclid a (pos (2 ^ unsigned_abs b)))) tt
integer_point And t a b = tt
integer_point Or t a b = tt
integer_point Xor t a b = tt
integer_point Lt t a b = tt
integer_point Gt t a b = tt
integer_point Le t a b = tt
integer_point Ge t a b = tt
integer_point Eq t a b = tt
integer_point Ne t a b = tt

outcome_point : (x : Fx) → HasPoint (outcome x)
outcome_point (Got x) = tt
outcome_point Overflow = tt
outcome_point ByZero = tt

shift_point : (left : Bool) (a b : Num) (mode : Mode) → HasPoint (shift_value left a b mode)
shift_point left (Whole n) b mode = tt
shift_point left (FixedNum x) (FixedNum y) mode = tt
shift_point left (FixedNum x) (Whole count) mode = by_count (is_count x.format.bits count)
  where
    by_count : (c : Bool) → HasPoint (if c then outcome (shift_of x (unsigned_abs count) left mode) else Err ShiftCount)
    by_count true = outcome_point (shift_of x (unsigned_abs count) left mode)
    by_count false = tt

fixed_point : (op : BinOp) (to : Format) (a b : Num) (mode : Mode) → HasPoint (fixed_value op to a b mode)
fixed_point Add to a b mode = outcome_point (sum_of a b to mode)
fixed_point Sub to a b mode = outcome_point (difference_of a b to mode)
fixed_point Mul to a b mode = outcome_point (product_of a b to mode)
fixed_point Div to a b mode = outcome_point (quotient_of a b to mode)
fixed_point Shl to a b mode = shift_point true a b mode
fixed_point Shr to a b mode = shift_point false a b mode
fixed_point Rem to a b mode = tt
fixed_point And to a b mode = tt
fixed_point Or to a b mode = tt
fixed_point Xor to a b mode = tt
fixed_point Lt to a b mode = tt
fixed_point Gt to a b mode = tt
fixed_point Le to a b mode = tt
fixed_point Ge to a b mode = tt
fixed_point Eq to a b mode = tt
fixed_point Ne to a b mode = tt

typed_point : (op : BinOp) (ty : Arithmetic) (mode : Mode) (a b : Num) → HasPoint (typed_value op ty mode a b)
typed_point op (Integer t) mode a b = integer_point op t (scaled a) (scaled b)
typed_point op (Fixed t) mode a b = fixed_point op (format_of t.kind) a b mode

pub arithmetic_point : (op : BinOp) (ty : Arithmetic) (mode : Mode) (a b : Num) → HasPoint (arithmetic_value op ty mode a b)
arithmetic_point op ty mode a b = by_kind (is_comparison op)
  where
    by_kind : (c : Bool) → HasPoint (if c then compared op (order_of a b) else typed_value op ty mode a b)
    by_kind true = tt
    by_kind false = typed_point op ty mode a b

pub unary_point : (op : UnOp) (ty : Arithmetic) (mode : Mode) (n : ℤ) → HasPoint (unary_value op ty mode n)
unary_point Minus (Integer t) mode n = tt
unary_point Invert (Integer t) mode n = tt
unary_point Minus (Fixed t) mode n = outcome_point (negation_of (fixed_number t n) mode)
unary_point Invert (Fixed t) mode n = tt

pub conversion_point : (to : Arithmetic) (mode : Mode) (a : Num) → HasPoint (conversion_value to mode a)
conversion_point (Integer t) mode (Whole n) = tt
conversion_point (Integer t) mode (FixedNum x) = by_whole (integer_of x t.signed (width_of t))
  where
    by_whole : (o : Option ℤ) → HasPoint (ok_or o WholePart)
    by_whole None = tt
    by_whole (Some n) = tt
conversion_point (Fixed t) mode a = outcome_point (conversion_of a (format_of t.kind) mode)

then_point : {A B : Type 0} (r : Result A Undefined) (go : A → Result B Undefined) → HasPoint r → ((x : A) → HasPoint (go x))
    → HasPoint (then_with r go)
then_point (Ok x) go h k = k x
then_point (Err point) go h k = h

operation_point : (op : BinOp) (types : OperationTypes) (mode : Mode) (x : Arithmetic) (m : ℤ) (y : Arithmetic) (n : ℤ)
    → HasPoint (operation_value op types mode x m y n)
operation_point op types mode x m y n =
    then_point (brought types.left mode x m) _ (conversion_point types.left mode (operand x m)) (λ a.
    then_point (brought types.right mode y n) _ (conversion_point types.right mode (operand y n))
    (λ b. arithmetic_point op types.result mode (operand types.left a) (operand types.right b)))

pub compound_point : (op : BinOp) (operation_mode write_mode : Mode) (x : Arithmetic) (m : ℤ) (y : Arithmetic) (n : ℤ)
    → HasPoint (compound_value op operation_mode write_mode x m y n)
compound_point op operation_mode write_mode x m y n =
    then_point (operation_value op (operation_types op x y) operation_mode x m y n) _
    (operation_point op (operation_types op x y) operation_mode x m y n) (λ r.
    conversion_point x write_mode (operand (operation_types op x y).result r))

-- ---- pointers

used_point : {A : Type 0} (b : Bool) (r : Result A Undefined) → HasPoint r → HasPoint (used b r)
used_point true r h = h
used_point false r h = tt

displaced_point : (p : ObjectPointer) (size : ℕ) (at : ℤ) → HasPoint (displaced p size at)
displaced_point p size at = by_range (int_le (pos 0) at && int_le at (pos size))
  where
    by_range : (b : Bool) → HasPoint {A = PointerValue} (if b
        then Ok (Some (record { object = p.object; instance = p.instance; offset = unsigned_abs at })) else Err PointerRange)
    by_range true = tt
    by_range false = tt

pub moved_point : (p : PointerValue) (of : Referent) (bytes : ℤ) → HasPoint (moved p of bytes)
moved_point None of bytes = tt
moved_point (Some p) of bytes =
    used_point of.live (displaced p of.size (pos p.offset +ℤ bytes)) (displaced_point p of.size (pos p.offset +ℤ bytes))

pub equality_point : (p : PointerValue) (of : Referent) (q : PointerValue) (into : Referent) → HasPoint (equality p of q into)
equality_point None of None into = tt
equality_point None of (Some q) into = tt
equality_point (Some p) of None into = tt
equality_point (Some p) of (Some q) into = by_instance (same_instance p q)
  where
    apart_point : (b c : Bool) → HasPoint (apart b c)
    apart_point true true = tt
    apart_point true false = tt
    apart_point false true = tt
    apart_point false false = tt

    by_instance : (b : Bool) → HasPoint (if b then Ok (p.offset == q.offset) else apart (is_at_end p of) (is_at_end q into))
    by_instance true = tt
    by_instance false = apart_point (is_at_end p of) (is_at_end q into)

pub truth_point : (a : Operand) (v : Value) → HasPoint (truth_of a v)
truth_point a (Number n) = tt
truth_point a (Pointer None) = tt
truth_point a (Pointer (Some p)) = used_point a.of.live (Ok true) tt

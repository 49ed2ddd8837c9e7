-- What the result of each family is, by the operator.
use Rattle.std.proofs.Common.{◌≡◌, ℕ, ◌+◌, ◌*◌, ◌^◌, ◌<◌, ◌==◌, Bool, true, false, ℤ, pos, negsuc, unsigned_abs, refl, sym, ap, ◌∙◌, subst}
use Rattle.std.proofs.Common.{arith}
use Rattle.std.specs.Prelude.{Result, Ok, Err, int_lt, int_le, ◌&&◌, if◌then◌else◌, ◌*ℤ◌}
use Rattle.std.specs.Int.{from_bool}
use Rattle.std.specs.Ordering.{int_eq, int_cmp, ordering_reverse}
use Rattle.std.specs.declared.cmp.Ordering.{Ordering}
use Rattle.std.specs.declared.cmp.Ordering.TheVariants.{Less as IsLess, Equal as IsEqual, Greater as IsGreater}
use Rattle.std.proofs.lemmas.Bool.{le-leb}
use Rattle.std.proofs.lemmas.Int.{ints}
use Rattle.ec_fx.specs.declared.formats.Format.{Format}
use Rattle.ec_fx.specs.declared.numbers.Fixed.{Fixed as FixedNumber}
use Rattle.ec_fx.specs.declared.numbers.Fx.{Fx}
use Rattle.ec_fx.specs.declared.numbers.Mode.{Mode}
use Rattle.ec_fx.specs.declared.numbers.Num.{Num}
use Rattle.ec_fx.specs.declared.numbers.Num.TheVariants.{Whole, Fixed as FixedNum}
use Rattle.ec_fx.specs.declared.numbers.Fx.TheVariants.{ZeroDivisor}
use Rattle.ec_fx.specs.Arithmetic.{product_of, quotient_of, quotient_in, shift_of, exact_shift}
use Rattle.ec_fx.specs.Conversions.{order_of}
use Rattle.ec_fx.specs.Numbers.{scaled, fraction_bits}
use Rattle.ec_fx.specs.Results.{result_of}
use Rattle.ec_fx.specs.Rounding.{rounded}
use Rattle.ec_core.specs.declared.expressions.BinOp.{BinOp}
use Rattle.ec_core.specs.declared.expressions.BinOp.TheVariants.{Add, Sub, Mul, Div, Shl, Shr, Lt, Gt, Le, Ge, Eq, Ne}
use Rattle.ec_core.specs.declared.values.Undefined.{Undefined}
use Rattle.ec_core.specs.declared.values.Undefined.TheVariants.{ShiftCount}
use Rattle.ec_fx.specs.Formats.{format_of}
use Rattle.ec_core.specs.declared.values.Value.{Value}
use Rattle.ec_core.specs.declared.values.Value.TheVariants.{Number}
use Rattle.ec_core.specs.ArithmeticValues.{operand, outcome, arithmetic_value, fixed_shift, shift_value}
use Rattle.ec_core.specs.Integers.{is_count, truth, accepts, compared}
use Rattle.ec_core.specs.Layout.{scalar_size}
use Rattle.ec_core.specs.Operators.{Operand, as_number, number_type, binary_of, binary_result}
use Rattle.ec_core.specs.Plain.{PlainType, void, integer, fixed, pointer, array, struct}
use Rattle.ec_ir.specs.Temporaries.{bits, low_bytes, content_of}
use Rattle.ec_fxcode.specs.ClampLaws.{HoldsResult}
use Rattle.ec_fxcode_shifts.specs.ShiftLaws.{number_in, fixed_in}
use Rattle.ec_fxcode_quotients.specs.QuotientLaws.{operand_in}
use Rattle.ec_fxcode_sums.specs.Orders.{stands_in}
use Rattle.ec_fxcode_sums.specs.SumLaws.{sum_by}
use Rattle.ec_core.specs.Typing.{int}
use Rattle.ec_select_order.specs.declared.relations.Relation.{Relation}
use Rattle.ec_select_order.specs.declared.relations.Relation.TheVariants.{Less, NotLess, Equal, NotEqual}
use Rattle.ec_select_fixed.specs.Types.{IsFixedType, IsNumberType, format_in}
use Rattle.ec_select_fixed.specs.FixedLaws.{HasOperandBytes, IsBinaryResult}
use Rattle.ec_select_fixed.proofs.Formats.{kind_bits, kind_frac}
use Rattle.ec_select_fixed.proofs.Values.{IsOperand, operand_read, FitsFormat, fit_fits, if_fits, result_bytes}

-- ---- a result is a number

-- where a number is the result
pub record IsNumber (w : Result ℤ Undefined) (r : Value) : Type 0 where
  pub number : ℤ
  pub is : w ≡ Ok number
  pub result : r ≡ Number number

pub as_told : (w : Result ℤ Undefined) (r : Value) → as_number w ≡ Ok r → IsNumber w r
as_told (Ok n) r e = let same : r ≡ Number n = cc in record { number = n; is = refl; result = same }
as_told (Err point) r e = cc

abbrev operand_of : PlainType → ℕ → Num
operand_of ty x = operand_in (format_in ty) (scalar_size ty) x

-- the operation on numbers in bytes
pub binary_told : (op : BinOp) (ty aty bty : PlainType) (mode : Mode) (x y : ℕ) (a b : Operand) (r : Value) → IsNumberType aty
    → IsNumberType bty → HasOperandBytes aty x a → HasOperandBytes bty y b → binary_result op ty mode a b ≡ Ok r
    → IsNumber (arithmetic_value op (number_type ty) mode (operand_of aty x) (operand_of bty y)) r
binary_told op ty aty bty mode x y a b r ka kb ha hb e =
    let p = operand_read aty ka x a.value ha.value_is in
    let q = operand_read bty kb y b.value hb.value_is in
    let pv = p.value_is in
    let qv = q.value_is in
    let first : operand (number_type a.ty) p.number ≡ operand_of aty x =
    ap (λ t. operand (number_type t) p.number) ha.type_is ∙ p.operand_is in
    let second : operand (number_type b.ty) q.number ≡ operand_of bty y =
    ap (λ t. operand (number_type t) q.number) hb.type_is ∙ q.operand_is in
    let both : binary_of op ty mode a (Number p.number) b (Number q.number) ≡ binary_result op ty mode a b =
    ap (λ u. binary_of op ty mode a u b (Number q.number)) (sym pv) ∙ ap (λ u. binary_of op ty mode a a.value b u) (sym qv) in
    let read : as_number (arithmetic_value op (number_type ty) mode (operand_of aty x) (operand_of bty y)) ≡ Ok r =
    ap (λ n. as_number (arithmetic_value op (number_type ty) mode n (operand_of bty y))) (sym first)
    ∙ ap (λ n. as_number (arithmetic_value op (number_type ty) mode (operand (number_type a.ty) p.number) n)) (sym second)
    ∙ both ∙ e in
    as_told (arithmetic_value op (number_type ty) mode (operand_of aty x) (operand_of bty y)) r read

-- bytes that hold what the operation on numbers gives are those of the result
pub binary_is : (op : BinOp) (ty aty bty : PlainType) (mode : Mode) (x y z : ℕ) → IsNumberType aty → IsNumberType bty
    → ((n : ℤ) → arithmetic_value op (number_type ty) mode (operand_of aty x) (operand_of bty y) ≡ Ok n → low_bytes (scalar_size ty) n ≡ z)
    → IsBinaryResult op ty mode aty bty x y z
binary_is op ty aty bty mode x y z ka kb h a b r ha hb e =
    let t = binary_told op ty aty bty mode x y a b r ka kb ha hb e in
    ap (content_of (scalar_size ty)) t.result ∙ ap bits (h t.number t.is)

-- ---- operators with a fixed-point result

pub fixed_bits : (ty : PlainType) → IsFixedType ty → (format_in ty).bits ≡ 8 * scalar_size ty
fixed_bits void h = absurd h
fixed_bits (integer signed bytes) h = absurd h
fixed_bits (fixed kind saturates) h = kind_bits kind
fixed_bits (pointer space const to) h = absurd h
fixed_bits (array of len) h = absurd h
fixed_bits (struct index) h = absurd h

-- what an operator with a result of the type is
abbrev IsOutcome : BinOp → PlainType → Mode → (a b : Num) → Fx → Type 0
IsOutcome op ty mode a b answer = arithmetic_value op (number_type ty) mode a b ≡ outcome answer

pub outcome_bytes : (op : BinOp) (ty : PlainType) (mode : Mode) (a b : Num) (answer : Fx) (z : ℕ) → IsFixedType ty
    → IsOutcome op ty mode a b answer → FitsFormat (format_in ty) answer → HoldsResult (scalar_size ty) answer z
    → (n : ℤ) → arithmetic_value op (number_type ty) mode a b ≡ Ok n → low_bytes (scalar_size ty) n ≡ z
outcome_bytes op ty mode a b answer z f e fit h n g =
    result_bytes (format_in ty) (scalar_size ty) z answer n (fixed_bits ty f) fit h (sym e ∙ g)

added_is : (ty : PlainType) (mode : Mode) (a b : Num) → IsFixedType ty
    → IsOutcome Add ty mode a b (sum_by false a b (format_in ty) mode) × IsOutcome Sub ty mode a b (sum_by true a b (format_in ty) mode)
added_is void mode a b h = absurd h
added_is (integer signed bytes) mode a b h = absurd h
added_is (fixed kind saturates) mode a b h = (refl, refl)
added_is (pointer space const to) mode a b h = absurd h
added_is (array of len) mode a b h = absurd h
added_is (struct index) mode a b h = absurd h

multiplied_is : (ty : PlainType) (mode : Mode) (a b : Num) → IsFixedType ty
    → IsOutcome Mul ty mode a b (product_of a b (format_in ty) mode) × IsOutcome Div ty mode a b (quotient_of a b (format_in ty) mode)
multiplied_is void mode a b h = absurd h
multiplied_is (integer signed bytes) mode a b h = absurd h
multiplied_is (fixed kind saturates) mode a b h = (refl, refl)
multiplied_is (pointer space const to) mode a b h = absurd h
multiplied_is (array of len) mode a b h = absurd h
multiplied_is (struct index) mode a b h = absurd h

pub sum_bytes : (ty : PlainType) (mode : Mode) (a b : Num) (z : ℕ) → IsFixedType ty
    → HoldsResult (scalar_size ty) (sum_by false a b (format_in ty) mode) z
    → (n : ℤ) → arithmetic_value Add (number_type ty) mode a b ≡ Ok n → low_bytes (scalar_size ty) n ≡ z
sum_bytes ty mode a b z f h =
    outcome_bytes Add ty mode a b (sum_by false a b (format_in ty) mode) z f (added_is ty mode a b f).0 (fit_fits (format_in ty) mode _) h

pub difference_bytes : (ty : PlainType) (mode : Mode) (a b : Num) (z : ℕ) → IsFixedType ty
    → HoldsResult (scalar_size ty) (sum_by true a b (format_in ty) mode) z
    → (n : ℤ) → arithmetic_value Sub (number_type ty) mode a b ≡ Ok n → low_bytes (scalar_size ty) n ≡ z
difference_bytes ty mode a b z f h =
    outcome_bytes Sub ty mode a b (sum_by true a b (format_in ty) mode) z f (added_is ty mode a b f).1 (fit_fits (format_in ty) mode _) h

pub product_bytes : (ty : PlainType) (mode : Mode) (a b : Num) (z : ℕ) → IsFixedType ty
    → HoldsResult (scalar_size ty) (product_of a b (format_in ty) mode) z
    → (n : ℤ) → arithmetic_value Mul (number_type ty) mode a b ≡ Ok n → low_bytes (scalar_size ty) n ≡ z
product_bytes ty mode a b z f h =
    outcome_bytes Mul ty mode a b (product_of a b (format_in ty) mode) z f (multiplied_is ty mode a b f).0
    (fit_fits (format_in ty) mode _) h

pub quotient_bytes : (ty : PlainType) (mode : Mode) (a b : Num) (z : ℕ) → IsFixedType ty
    → HoldsResult (scalar_size ty) (quotient_of a b (format_in ty) mode) z
    → (n : ℤ) → arithmetic_value Div (number_type ty) mode a b ≡ Ok n → low_bytes (scalar_size ty) n ≡ z
quotient_bytes ty mode a b z f h =
    outcome_bytes Div ty mode a b (quotient_of a b (format_in ty) mode) z f (multiplied_is ty mode a b f).1
    (if_fits (format_in ty) (int_eq (scaled b) (pos 0)) ZeroDivisor (result_of (quotient_in a b (format_in ty)) (format_in ty) mode) tt
    (fit_fits (format_in ty) mode (rounded (quotient_in a b (format_in ty))))) h

-- ---- shifts

-- what holds of a count that is from 0 to below the bits of the number
abbrev pub ShiftHolds : (left : Bool) → FixedNumber → (count : ℤ) → Mode → (k z : ℕ) → Type 0
ShiftHolds left x count mode k z =
    (c : ℕ) → count ≡ pos c → c < x.format.bits → HoldsResult k (shift_of x c left mode) z

shifted_by : (left : Bool) (x : FixedNumber) (count : ℤ) (mode : Mode) (k z : ℕ) (n : ℤ) → x.format.bits ≡ 8 * k
    → ShiftHolds left x count mode k z → fixed_shift left x count mode ≡ Ok n → low_bytes k n ≡ z
shifted_by left x (negsuc c) mode k z n e h g = cc
shifted_by left x (pos c) mode k z n e h g = by_test (int_lt (pos c) (pos x.format.bits)) refl
  where
    by_test : (b : Bool) → int_lt (pos c) (pos x.format.bits) ≡ b → low_bytes k n ≡ z
    by_test true t =
        let p : int_le (pos 0) (pos c) ≡ true = le-leb 0 c (omega arith) in
        let same : fixed_shift left x (pos c) mode ≡ outcome (shift_of x c left mode) = rw (p, t) refl in
        result_bytes x.format k z (shift_of x c left mode) n e (fit_fits x.format mode (rounded (exact_shift x.n c left)))
        (h c refl (omega (arith, ints, t))) (sym same ∙ g)
    by_test false t =
        let p : int_le (pos 0) (pos c) ≡ true = le-leb 0 c (omega arith) in
        let same : fixed_shift left x (pos c) mode ≡ Err ShiftCount = rw (p, t) refl in
        cc

-- an operand in fixed-point, and a whole one
abbrev operand_by : (whole : Bool) → Format → (n x : ℕ) → Num
operand_by whole f n x = if whole then Whole (number_in f.signed n x) else FixedNum (fixed_in f n x)

whole_operand : (f : Format) (n x : ℕ) → f.frac ≡ 0 → operand_in f n x ≡ Whole (number_in f.signed n x)
whole_operand f n x e = ap (λ z. operand_by (z == 0) f n x) e

pub fixed_operand : (ty : PlainType) (n x : ℕ) → IsFixedType ty → operand_in (format_in ty) n x ≡ FixedNum (fixed_in (format_in ty) n x)
fixed_operand void n x h = absurd h
fixed_operand (integer signed bytes) n x h = absurd h
fixed_operand (fixed kind saturates) n x h = ap (λ z. operand_by z (format_of kind) n x) (kind_frac kind)
fixed_operand (pointer space const to) n x h = absurd h
fixed_operand (array of len) n x h = absurd h
fixed_operand (struct index) n x h = absurd h

pub shifted_is : (ty : PlainType) (mode : Mode) (a b : Num) → IsFixedType ty
    → (arithmetic_value Shl (number_type ty) mode a b ≡ shift_value true a b mode)
    × (arithmetic_value Shr (number_type ty) mode a b ≡ shift_value false a b mode)
shifted_is void mode a b h = absurd h
shifted_is (integer signed bytes) mode a b h = absurd h
shifted_is (fixed kind saturates) mode a b h = (refl, refl)
shifted_is (pointer space const to) mode a b h = absurd h
shifted_is (array of len) mode a b h = absurd h
shifted_is (struct index) mode a b h = absurd h

shift_read : (left : Bool) (aty bty : PlainType) (mode : Mode) (x y : ℕ) → IsFixedType aty → (format_in bty).frac ≡ 0
    → shift_value left (operand_of aty x) (operand_of bty y) mode
    ≡ fixed_shift left (fixed_in (format_in aty) (scalar_size aty) x) (number_in (format_in bty).signed (scalar_size bty) y) mode
shift_read left aty bty mode x y f w =
    ap (λ a. shift_value left a (operand_of bty y) mode) (fixed_operand aty (scalar_size aty) x f)
    ∙ ap (λ b. shift_value left (FixedNum (fixed_in (format_in aty) (scalar_size aty) x)) b mode)
    (whole_operand (format_in bty) (scalar_size bty) y w)

pub shift_bytes : (left : Bool) (ty aty bty : PlainType) (mode : Mode) (x y z : ℕ) (n : ℤ) (w : Result ℤ Undefined) → IsFixedType ty
    → ty ≡ aty → (format_in bty).frac ≡ 0
    → ShiftHolds left (fixed_in (format_in aty) (scalar_size aty) x) (number_in (format_in bty).signed (scalar_size bty) y) mode
    (scalar_size aty) z
    → w ≡ shift_value left (operand_of aty x) (operand_of bty y) mode → w ≡ Ok n → low_bytes (scalar_size ty) n ≡ z
shift_bytes left ty aty bty mode x y z n w f e whole h v g =
    let fa : IsFixedType aty = subst IsFixedType e f in
    let r = shifted_by left (fixed_in (format_in aty) (scalar_size aty) x) (number_in (format_in bty).signed (scalar_size bty) y) mode
    (scalar_size aty) z n
    (fixed_bits aty fa) h (sym (shift_read left aty bty mode x y fa whole) ∙ sym v ∙ g) in
    subst (λ t. low_bytes (scalar_size t) n ≡ z) (sym e) r

-- ---- comparisons

pub less_told : (o : Ordering) → accepts Lt o ≡ stands_in Less o
less_told IsLess = refl
less_told IsEqual = refl
less_told IsGreater = refl

pub not_less_told : (o : Ordering) → accepts Ge o ≡ stands_in NotLess o
not_less_told IsLess = refl
not_less_told IsEqual = refl
not_less_told IsGreater = refl

pub equal_told : (o : Ordering) → accepts Eq o ≡ stands_in Equal o
equal_told IsLess = refl
equal_told IsEqual = refl
equal_told IsGreater = refl

pub unequal_told : (o : Ordering) → accepts Ne o ≡ stands_in NotEqual o
unequal_told IsLess = refl
unequal_told IsEqual = refl
unequal_told IsGreater = refl

pub greater_told : (o : Ordering) → accepts Gt o ≡ stands_in Less (ordering_reverse o)
greater_told IsLess = refl
greater_told IsEqual = refl
greater_told IsGreater = refl

pub not_greater_told : (o : Ordering) → accepts Le o ≡ stands_in NotLess (ordering_reverse o)
not_greater_told IsLess = refl
not_greater_told IsEqual = refl
not_greater_told IsGreater = refl

turned_order : (x y : ℤ) → int_cmp y x ≡ ordering_reverse (int_cmp x y)
turned_order x y = by_tests (int_lt x y) (int_lt y x) refl refl
  where
    by_tests : (b c : Bool) → int_lt x y ≡ b → int_lt y x ≡ c → int_cmp y x ≡ ordering_reverse (int_cmp x y)
    by_tests true true e f = absurd (omega (arith, ints, e, f))
    by_tests true false e f = rw (e, f) refl
    by_tests false true e f = rw (e, f) refl
    by_tests false false e f = rw (e, f) refl

pub order_turned : (a b : Num) → order_of b a ≡ ordering_reverse (order_of a b)
order_turned a b = turned_order (scaled a *ℤ pos (2 ^ fraction_bits b)) (scaled b *ℤ pos (2 ^ fraction_bits a))

truth_bytes : (t : Bool) → low_bytes 2 (truth t) ≡ from_bool t
truth_bytes true = refl
truth_bytes false = refl

pub order_bytes : (op : BinOp) (order : Ordering) (t : Bool) (ty : PlainType) (z : ℕ) (n : ℤ) → ty ≡ int → accepts op order ≡ t
    → z ≡ from_bool t
    → compared op order ≡ Ok n → low_bytes (scalar_size ty) n ≡ z
order_bytes op order t ty z n e a h g =
    let same : n ≡ truth (accepts op order) = cc in
    ap (λ u. low_bytes (scalar_size u) n) e ∙ ap (low_bytes 2) same ∙ truth_bytes (accepts op order) ∙ ap from_bool a ∙ sym h

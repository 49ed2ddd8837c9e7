-- What the result of a conversion is.
use Rattle.std.proofs.Common.{◌≡◌, ◌⊎◌, inl, inr, ⊎_elim, ℕ, ◌+◌, ◌-◌, ◌*◌, ◌/◌, ◌^◌, ◌<◌, ◌≤◌, Bool, true, false, ℤ, pos, negsuc, ◌+ℤ◌}
use Rattle.std.proofs.Common.{refl, sym, ap, ◌∙◌, subst, arith}
use Rattle.std.specs.Prelude.{Option, Some, None, Result, Ok, Err, int_lt, ◌||◌, if◌then◌else◌}
use Rattle.std.specs.Option.{ok_or}
use Rattle.std.proofs.lemmas.Bool.{cases_lt}
use Rattle.std.proofs.lemmas.Int.{ints}
use Rattle.ec_fx.specs.declared.formats.Format.{Format}
use Rattle.ec_fx.specs.declared.numbers.Fixed.{Fixed as FixedNumber}
use Rattle.ec_fx.specs.declared.numbers.Mode.{Mode}
use Rattle.ec_fx.specs.declared.numbers.Num.{Num}
use Rattle.ec_fx.specs.declared.numbers.Num.TheVariants.{Fixed as FixedNum}
use Rattle.ec_fx.specs.Conversions.{conversion_of as fixed_conversion, conversion_in, integer_of, held, IsIntegerWidth, exact_whole}
use Rattle.ec_fx.specs.Formats.{format_of}
use Rattle.ec_fx.specs.Ranges.{least, greatest, IsWithin}
use Rattle.ec_fx.specs.Rounding.{rounded}
use Rattle.ec_core.specs.declared.values.Undefined.{Undefined}
use Rattle.ec_core.specs.declared.values.Undefined.TheVariants.{WholePart}
use Rattle.ec_core.specs.declared.values.Value.{Value}
use Rattle.ec_core.specs.declared.values.Value.TheVariants.{Number}
use Rattle.ec_core.specs.ArithmeticValues.{operand, outcome, conversion_value}
use Rattle.ec_core.specs.Layout.{IsIntegerSize, scalar_size}
use Rattle.ec_core.specs.Operators.{Operand, as_number, number_type, conversion_of, conversion_result}
use Rattle.ec_core.specs.Plain.{PlainType, void, integer, fixed, pointer, array, struct}
use Rattle.ec_ir.specs.Temporaries.{bits, low_bytes, content_of}
use Rattle.ec_fxcode.specs.ClampLaws.{signed_number, in_bytes, HoldsResult}
use Rattle.ec_fxcode.proofs.Fits.{plus, minus}
use Rattle.ec_fxcode_shifts.specs.ShiftLaws.{number_in, fixed_in}
use Rattle.ec_fxcode_quotients.specs.QuotientLaws.{operand_in}
use Rattle.ec_fxcode_conversions.specs.ConversionLaws.{HoldsWhole}
use Rattle.ec_select_fixed.specs.Types.{IsFixedType, IsNumberType, format_in}
use Rattle.ec_select_fixed.specs.FixedLaws.{HasOperandBytes, IsConversionResult}
use Rattle.ec_select_fixed.proofs.Formats.{kind_bits, fixed_bytes}
use Rattle.ec_select_fixed.proofs.Kept.{conversion_keeps}
use Rattle.ec_select_fixed.proofs.Operators.{IsNumber, as_told, fixed_bits, fixed_operand}
use Rattle.ec_select_fixed.proofs.Values.{operand_read, low_of, in_range, fit_fits, result_bytes}

abbrev operand_of : PlainType → ℕ → Num
operand_of ty x = operand_in (format_in ty) (scalar_size ty) x

conversion_number : (ty : PlainType) (mode : Mode) (a : Operand) (m : ℤ) → IsNumberType ty
    → conversion_of ty mode a (Number m) ≡ as_number (conversion_value (number_type ty) mode (operand (number_type a.ty) m))
conversion_number void mode a m h = absurd h
conversion_number (integer signed bytes) mode a m h = refl
conversion_number (fixed kind saturates) mode a m h = refl
conversion_number (pointer space const to) mode a m h = absurd h
conversion_number (array of len) mode a m h = absurd h
conversion_number (struct index) mode a m h = absurd h

-- the conversion of a number in bytes
pub conversion_told : (ty aty : PlainType) (mode : Mode) (x : ℕ) (a : Operand) (r : Value) → IsNumberType ty → IsNumberType aty
    → HasOperandBytes aty x a → conversion_result ty mode a ≡ Ok r
    → IsNumber (conversion_value (number_type ty) mode (operand_of aty x)) r
conversion_told ty aty mode x a r k ka ha e =
    let p = operand_read aty ka x a.value ha.value_is in
    let pv = p.value_is in
    let first : operand (number_type a.ty) p.number ≡ operand_of aty x =
    ap (λ t. operand (number_type t) p.number) ha.type_is ∙ p.operand_is in
    let read : as_number (conversion_value (number_type ty) mode (operand_of aty x)) ≡ Ok r =
    ap (λ n. as_number (conversion_value (number_type ty) mode n)) (sym first) ∙ sym (conversion_number ty mode a p.number k)
    ∙ ap (conversion_of ty mode a) (sym pv) ∙ e in
    as_told (conversion_value (number_type ty) mode (operand_of aty x)) r read

pub conversion_is : (ty aty : PlainType) (mode : Mode) (x z : ℕ) → IsNumberType ty → IsNumberType aty
    → ((n : ℤ) → conversion_value (number_type ty) mode (operand_of aty x) ≡ Ok n → low_bytes (scalar_size ty) n ≡ z)
    → IsConversionResult ty mode aty x z
conversion_is ty aty mode x z k ka h a r ha e =
    let t = conversion_told ty aty mode x a r k ka ha e in
    ap (content_of (scalar_size ty)) t.result ∙ ap bits (h t.number t.is)

-- ---- to the same type

low_of_signed : (k x : ℕ) → x < 256 ^ k → low_bytes k (signed_number k x) ≡ x
low_of_signed k x l =
    ⊎_elim
    (λ (y : 2 * x < 256 ^ k). ap (low_bytes k) (plus k x y) ∙ low_of (pos x) k 0 x (omega (arith, ints)) l)
    (λ (y : 256 ^ k ≤ 2 * x). ap (low_bytes k) (minus k x y l) ∙ low_of (negsuc (256 ^ k - x - 1)) k 1 x (omega (arith, ints, l)) l)
    (cases_lt (2 * x) (256 ^ k))

low_of_number : (signed : Bool) (k x : ℕ) → x < 256 ^ k → low_bytes k (number_in signed k x) ≡ x
low_of_number true k x l = low_of_signed k x l
low_of_number false k x l = low_of (pos x) k 0 x (omega (arith, ints)) l

kept_bytes : (ty : PlainType) (mode : Mode) (x : ℕ) (n : ℤ) → IsFixedType ty → x < 256 ^ scalar_size ty
    → conversion_value (number_type ty) mode (operand_of ty x) ≡ Ok n → low_bytes (scalar_size ty) n ≡ x
kept_bytes void mode x n f l e = absurd f
kept_bytes (integer signed bytes) mode x n f l e = absurd f
kept_bytes (fixed kind saturates) mode x n f l e =
    let g = format_of kind in
    let k = g.bits / 8 in
    let some = (fixed_bytes (fixed kind saturates) tt).0 in
    let kept : conversion_value (number_type (fixed kind saturates)) mode (operand_of (fixed kind saturates) x)
    ≡ Ok (number_in g.signed k x) =
    ap (λ a. outcome (fixed_conversion a g mode)) (fixed_operand (fixed kind saturates) k x tt)
    ∙ ap outcome (conversion_keeps g mode k x (kind_bits kind) some l) in
    let same : n ≡ number_in g.signed k x = cc in
    ap (low_bytes k) same ∙ low_of_number g.signed k x l
kept_bytes (pointer space const to) mode x n f l e = absurd f
kept_bytes (array of len) mode x n f l e = absurd f
kept_bytes (struct index) mode x n f l e = absurd f

pub kept_result : (ty aty : PlainType) (mode : Mode) (x z : ℕ) → ty ≡ aty → IsFixedType ty → IsNumberType ty
    → x < 256 ^ scalar_size ty → z ≡ x
    → IsConversionResult ty mode aty x z
kept_result ty aty mode x z e f k l s =
    subst (λ (t : PlainType). IsConversionResult ty mode t x z) e
    (conversion_is ty ty mode x z k k (λ n g. kept_bytes ty mode x n f l g ∙ sym s))

-- ---- to a fixed-point type

to_fixed : (ty : PlainType) (mode : Mode) (a : Num) (n : ℤ) (z : ℕ) → IsFixedType ty
    → HoldsResult (scalar_size ty) (fixed_conversion a (format_in ty) mode) z
    → conversion_value (number_type ty) mode a ≡ Ok n → low_bytes (scalar_size ty) n ≡ z
to_fixed void mode a n z f h e = absurd f
to_fixed (integer signed bytes) mode a n z f h e = absurd f
to_fixed (fixed kind saturates) mode a n z f h e =
    let g = format_of kind in
    result_bytes g (g.bits / 8) z (fixed_conversion a g mode) n (kind_bits kind) (fit_fits g mode (rounded (conversion_in a g))) h e
to_fixed (pointer space const to) mode a n z f h e = absurd f
to_fixed (array of len) mode a n z f h e = absurd f
to_fixed (struct index) mode a n z f h e = absurd f

pub fixed_result : (ty aty : PlainType) (mode : Mode) (x z : ℕ) → IsFixedType ty → IsNumberType ty → IsNumberType aty
    → HoldsResult (scalar_size ty) (fixed_conversion (operand_of aty x) (format_in ty) mode) z → IsConversionResult ty mode aty x z
fixed_result ty aty mode x z f k ka h = conversion_is ty aty mode x z k ka (λ n e. to_fixed ty mode (operand_of aty x) n z f h e)

-- ---- to an integer

told_whole : (o : Option ℤ) (n : ℤ) → ok_or o WholePart ≡ Ok n → o ≡ Some n
told_whole None n e = cc
told_whole (Some m) n e = cc

held_within : (signed : Bool) (width : ℕ) (m n : ℤ) → held signed width m ≡ Some n → IsWithin signed width n
held_within signed width m n e = by_tests (int_lt (greatest signed width) m) (int_lt m (least signed width)) refl refl e
  where
    by_tests : (b c : Bool) → int_lt (greatest signed width) m ≡ b → int_lt m (least signed width) ≡ c
        → (if b || c then None else Some m) ≡ Some n → IsWithin signed width n
    by_tests true c f g h = cc
    by_tests false true f g h = cc
    by_tests false false f g h = let same : m ≡ n = cc in record { low = omega (arith, ints, same); high = omega (arith, ints, same) }

to_whole : (signed : Bool) (k : ℕ) (x : FixedNumber) (n : ℤ) (z : ℕ)
    → ((s : Bool) (m : ℤ) → integer_of x s (8 * k) ≡ Some m → z ≡ in_bytes k m)
    → ok_or (integer_of x signed (8 * k)) WholePart ≡ Ok n → low_bytes k n ≡ z
to_whole signed k x n z h e =
    let told = told_whole (integer_of x signed (8 * k)) n e in
    in_range signed (8 * k) k n refl (held_within signed (8 * k) (rounded (exact_whole x)) n told) ∙ sym (h signed n told)

pub whole_result : (signed : Bool) (bytes : ℕ) (aty : PlainType) (mode : Mode) (x z : ℕ) → IsFixedType aty → IsIntegerSize bytes
    → IsNumberType aty
    → HoldsWhole (format_in aty) (scalar_size aty) bytes x z → IsConversionResult (integer signed bytes) mode aty x z
whole_result signed bytes aty mode x z f k ka h =
    conversion_is (integer signed bytes) aty mode x z k ka
    (λ n e. to_whole signed bytes (fixed_in (format_in aty) (scalar_size aty) x) n z h
    (ap (conversion_value (number_type (integer signed bytes)) mode) (sym (fixed_operand aty (scalar_size aty) x f)) ∙ e))

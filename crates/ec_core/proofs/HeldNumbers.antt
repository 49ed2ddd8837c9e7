-- The results of operators and conversions are numbers of their types.
use Rattle.std.proofs.Common.{◌≡◌, ℕ, zero, suc, ◌-◌, ◌*◌, ◌^◌, ◌<◌, ◌≤◌, Bool, true, false, ◌&&◌, ◌||◌, ℤ, pos, negsuc, ◌-ℤ◌, ◌*ℤ◌}
use Rattle.std.proofs.Common.{unsigned_abs, Option, Some, None, Result, Ok, Err, refl, sym, ap, ◌∙◌, subst, inl, inr, arith, bit_and}
use Rattle.std.proofs.Common.{bit_or, bit_xor, leb-true, leb-false}
use Rattle.std.specs.Prelude.{⊤, if◌then◌else◌, nat_le, nat_lt, int_lt, int_div, int_rem, ◌≤ℤ◌}
use Rattle.std.specs.Ordering.{int_eq}
use Rattle.std.proofs.lemmas.Int.{ints}
use Rattle.std.proofs.Math.Nat.{pow-suc}
use Rattle.std.proofs.lemmas.Nat.{pow_pos, or_lt, xor_lt, and_le_l}
use Rattle.std.specs.Int.{int_rem_euclid, int_div_euclid}
use Rattle.ec_fx.specs.Ranges.{least, greatest, IsWithin}
use Rattle.ec_core.specs.Integers.{compared, low_bits, from_bits, wrapped, modulus, width_of, is_count, truth, integer_value, IsInteger}
use Rattle.ec_core.specs.Integers.{HoldsInteger}
use Rattle.ec_core.specs.declared.arithmetic_types.Arithmetic.{Arithmetic}
use Rattle.ec_core.specs.declared.arithmetic_types.Arithmetic.TheVariants.{Integer, Fixed}
use Rattle.ec_core.specs.declared.arithmetic_types.FixedType.{FixedType}
use Rattle.ec_core.specs.declared.arithmetic_types.IntegerType.{IntegerType}
use Rattle.ec_core.specs.declared.expressions.BinOp.{BinOp}
use Rattle.ec_core.specs.declared.expressions.BinOp.TheVariants.{Add, Sub, Mul, Div, Rem, Shl, Shr, And, Or, Xor, Lt, Gt, Le, Ge, Eq, Ne}
use Rattle.ec_core.specs.declared.expressions.UnOp.{UnOp}
use Rattle.ec_core.specs.declared.expressions.UnOp.TheVariants.{Minus, Invert}
use Rattle.ec_core.specs.declared.values.Undefined.{Undefined}
use Rattle.ec_core.specs.declared.values.Undefined.TheVariants.{ZeroDivisor, ShiftCount, WholePart}
use Rattle.ec_core.specs.ArithmeticTypes.{type_of, promoted, wider_or_unsigned, common, common_integer}
use Rattle.ec_core.specs.Operators.{operation_types, then_with, brought, operation_value, compound_value}
use Rattle.ec_core.specs.ArithmeticValues.{fixed_number, HoldsFixed, HoldsNumber, operand, outcome, shift_value, fixed_value, is_comparison}
use Rattle.ec_core.specs.ArithmeticValues.{typed_value, arithmetic_value, unary_value, conversion_value, IsKnownType}
use Rattle.ec_core.specs.Typing.{IsIntegerKind, int, HaveArithmeticTypes, HaveUnaryTypes}
use Rattle.ec_fx.specs.declared.formats.Format.{Format}
use Rattle.ec_fx.specs.declared.numbers.Fixed.{Fixed as FixedNumber}
use Rattle.ec_fx.specs.declared.numbers.Fx.{Fx}
use Rattle.ec_fx.specs.declared.numbers.Fx.TheVariants.{Got, Overflow, ZeroDivisor as ByZero}
use Rattle.ec_fx.specs.declared.numbers.Mode.{Mode}
use Rattle.ec_fx.specs.declared.numbers.Num.{Num}
use Rattle.ec_fx.specs.declared.numbers.Num.TheVariants.{Whole, Fixed as FixedNum}
use Rattle.ec_fx.specs.Arithmetic.{shift_of, quotient_in}
use Rattle.ec_fx.specs.Numbers.{scaled}
use Rattle.ec_fx.specs.Conversions.{order_of, held, integer_of, exact_whole}
use Rattle.ec_fx.specs.Formats.{format_of}
use Rattle.ec_fx.specs.Results.{clamped, fit}
use Rattle.ec_fx.specs.Rounding.{rounded}
use Rattle.std.specs.Option.{ok_or}

pub not_less : (a b : ℤ) → int_lt a b ≡ false → b ≤ℤ a
not_less a b h = grind (arith, ints)

cases : (a b : Bool) (n m : ℤ) → Some m ≡ (if a || b then None else Some n) → (a ≡ false) × (b ≡ false) × (m ≡ n)
cases true b n m e = cc
cases false true n m e = cc
cases false false n m e = let same : m ≡ n = cc in (refl, refl, same)

-- a number that a type holds is in its range
within : (signed : Bool) (bits : ℕ) (n m : ℤ) → Some m ≡ held signed bits n → IsWithin signed bits m
within signed bits n m e =
    let c = cases (int_lt (greatest signed bits) n) (int_lt n (least signed bits)) n m e in
    subst (λ (z : ℤ). IsWithin signed bits z) (sym c.2)
    (record { low = not_less n (least signed bits) c.1; high = not_less (greatest signed bits) n c.0 })

-- ---- integers

remainder_below : (n : ℤ) (m : ℕ) → 0 < m → unsigned_abs (int_rem_euclid n (pos m)) < m
remainder_below (pos a) m h = omega arith
remainder_below (negsuc a) m h = omega arith

low_bits_below : (t : IntegerType) (n : ℤ) → low_bits t n < modulus t
low_bits_below t n = remainder_below n (modulus t) (pow_pos (width_of t))

-- the number that so many bits make in two's complement
abbrev signed_of : Bool → ℕ → ℕ → ℤ
signed_of signed w low = if signed && nat_le (2 ^ w) (2 * low) then pos low -ℤ pos (2 ^ w) else pos low

half : (w : ℕ) → 1 ≤ w → 2 ^ w ≡ 2 * 2 ^ (w - 1)
half zero h = absurd (omega arith)
half (suc w) h = pow-suc 2 w ∙ omega (arith, ap (λ i. 2 ^ i) (sub-one-suc w))
  where
    sub-one-suc : (i : ℕ) → suc i - 1 ≡ i
    sub-one-suc i = omega arith

signed_held : (signed : Bool) (w low : ℕ) → 1 ≤ w → low < 2 ^ w → IsWithin signed w (signed_of signed w low)
signed_held false w low h b = record { low = omega (arith, ints); high = omega (arith, ints) }
signed_held true w low h b = by_half (nat_le (2 ^ w) (2 * low)) refl
  where
    by_half : (c : Bool) → nat_le (2 ^ w) (2 * low) ≡ c → IsWithin true w (if c then pos low -ℤ pos (2 ^ w) else pos low)
    by_half true e =
        let l : 2 ^ w ≤ 2 * low = leb-true (2 ^ w) (2 * low) e in
        let p : 2 ^ w ≡ 2 * 2 ^ (w - 1) = half w h in
        record { low = omega (arith, ints); high = omega (arith, ints) }
    by_half false e =
        let l : 2 * low < 2 ^ w = leb-false (2 ^ w) (2 * low) e in
        let p : 2 ^ w ≡ 2 * 2 ^ (w - 1) = half w h in
        record { low = omega (arith, ints); high = omega (arith, ints) }

some_bits : (t : IntegerType) → IsInteger t → 1 ≤ width_of t
some_bits t (inl e) = omega arith
some_bits t (inr (inl e)) = omega arith
some_bits t (inr (inr e)) = omega arith

from_bits_held : (t : IntegerType) (low : ℕ) → IsInteger t → low < modulus t → HoldsInteger t (from_bits t low)
from_bits_held t low i b = signed_held t.signed (width_of t) low (some_bits t i) b

pub wrapped_held : (t : IntegerType) (n : ℤ) → IsInteger t → HoldsInteger t (wrapped t n)
wrapped_held t n i = from_bits_held t (low_bits t n) i (low_bits_below t n)

-- ---- results that hold, or are undefined

abbrev pub Held : Arithmetic → Result ℤ Undefined → Type 0
Held t (Ok n) = HoldsNumber t n
Held t (Err point) = ⊤

abbrev IntegerHeld : IntegerType → Result ℤ Undefined → Type 0
IntegerHeld t (Ok n) = HoldsInteger t n
IntegerHeld t (Err point) = ⊤

abbrev FixedHeld : FixedType → Result ℤ Undefined → Type 0
FixedHeld t (Ok n) = HoldsFixed t n
FixedHeld t (Err point) = ⊤

integer_result : (t : IntegerType) (r : Result ℤ Undefined) → IsInteger t → IntegerHeld t r → Held (Integer t) r
integer_result t (Ok n) i h = (i, h)
integer_result t (Err point) i h = tt

fixed_result : (t : FixedType) (r : Result ℤ Undefined) → FixedHeld t r → Held (Fixed t) r
fixed_result t (Ok n) h = h
fixed_result t (Err point) h = tt

if_held : (t : IntegerType) (b : Bool) (p q : Result ℤ Undefined) → IntegerHeld t p → IntegerHeld t q → IntegerHeld t (if b then p else q)
if_held t true p q h k = h
if_held t false p q h k = k

bits_below : (t : IntegerType) (a b : ℤ) → (bit_and (low_bits t a) (low_bits t b) < modulus t)
    × (bit_or (low_bits t a) (low_bits t b) < modulus t) × (bit_xor (low_bits t a) (low_bits t b) < modulus t)
bits_below t a b =
    let l : low_bits t a < modulus t = low_bits_below t a in
    let r : low_bits t b < modulus t = low_bits_below t b in
    let least : bit_and (low_bits t a) (low_bits t b) ≤ low_bits t a = and_le_l (low_bits t a) (low_bits t b) in
    (omega (arith, least, l), or_lt (width_of t) (low_bits t a) (low_bits t b) l r, xor_lt (width_of t) (low_bits t a) (low_bits t b) l r)

-- the type int
abbrev pub int_type : IntegerType
int_type = record { signed = true; bytes = 2 }

truth_held : (b : Bool) → HoldsInteger int_type (truth b)
truth_held true = record { low = omega (arith, ints); high = omega (arith, ints) }
truth_held false = record { low = omega (arith, ints); high = omega (arith, ints) }

pub truth_number : (b : Bool) → HoldsNumber (Integer int_type) (truth b)
truth_number b = (inr (inl refl), truth_held b)

-- an operator other than a comparison
integer_held : (op : BinOp) (t : IntegerType) (a b : ℤ) → is_comparison op ≡ false → IsInteger t → IntegerHeld t (integer_value op t a b)
integer_held Add t a b c i = wrapped_held t _ i
integer_held Sub t a b c i = wrapped_held t _ i
integer_held Mul t a b c i = wrapped_held t _ i
integer_held Div t a b c i =
    if_held t (int_eq b (pos 0)) (Err ZeroDivisor) (Ok (wrapped t (int_div a b))) tt (wrapped_held t (int_div a b) i)
integer_held Rem t a b c i =
    if_held t (int_eq b (pos 0)) (Err ZeroDivisor) (Ok (wrapped t (int_rem a b))) tt (wrapped_held t (int_rem a b) i)
integer_held Shl t a b c i = if_held t (is_count (width_of t) b) (Ok (wrapped t (a *ℤ pos (2 ^ unsigned_abs b)))) (Err ShiftCount)
    (wrapped_held t (a *ℤ pos (2 ^ unsigned_abs b)) i) tt
integer_held Shr t a b c i = if_held t (is_count (width_of t) b) (Ok (wrapped t (int_div_euclid a (pos (2 ^ unsigned_abs b)))))
    (Err ShiftCount) (wrapped_held t (int_div_euclid a (pos (2 ^ unsigned_abs b))) i) tt
integer_held And t a b c i = from_bits_held t _ i (bits_below t a b).0
integer_held Or t a b c i = from_bits_held t _ i (bits_below t a b).1
integer_held Xor t a b c i = from_bits_held t _ i (bits_below t a b).2
integer_held Lt t a b c i = cc
integer_held Gt t a b c i = cc
integer_held Le t a b c i = cc
integer_held Ge t a b c i = cc
integer_held Eq t a b c i = cc
integer_held Ne t a b c i = cc

-- ---- fixed-point results

abbrev FitsFormat : Format → Result ℤ Undefined → Type 0
FitsFormat to (Ok n) = IsWithin to.signed to.bits n
FitsFormat to (Err point) = ⊤

as_held : (t : FixedType) (r : Result ℤ Undefined) → FitsFormat (format_of t.kind) r → FixedHeld t r
as_held t (Ok n) h = h
as_held t (Err point) h = tt

ends_in_order : (signed : Bool) (bits : ℕ) → least signed bits ≤ℤ greatest signed bits
ends_in_order true bits = omega (arith, ints, pow_pos (bits - 1))
ends_in_order false bits = omega (arith, ints, pow_pos bits)

clamped_fits : (to : Format) (mode : Mode) (end : ℤ) → IsWithin to.signed to.bits end → FitsFormat to (outcome (clamped to mode end))
clamped_fits to mode end h = by_mode mode.saturate
  where
    by_mode : (b : Bool) → FitsFormat to (outcome (if b then Got (record { format = to; n = end }) else Overflow))
    by_mode true = h
    by_mode false = tt

fit_fits : (to : Format) (mode : Mode) (n : ℤ) → FitsFormat to (outcome (fit to mode n))
fit_fits to mode n = by_tests (int_lt (greatest to.signed to.bits) n) (int_lt n (least to.signed to.bits)) refl refl
  where
    by_tests : (b c : Bool) → int_lt (greatest to.signed to.bits) n ≡ b → int_lt n (least to.signed to.bits) ≡ c
        → FitsFormat to (outcome (if b then clamped to mode (greatest to.signed to.bits)
        else (if c then clamped to mode (least to.signed to.bits) else Got (record { format = to; n = n }))))
    by_tests true c e f =
        clamped_fits to mode (greatest to.signed to.bits) (record { low = ends_in_order to.signed to.bits; high = omega (arith, ints) })
    by_tests false true e f =
        clamped_fits to mode (least to.signed to.bits) (record { low = omega (arith, ints); high = ends_in_order to.signed to.bits })
    by_tests false false e f = record { low = not_less n (least to.signed to.bits) f; high = not_less (greatest to.signed to.bits) n e }

if_fits : (to : Format) (b : Bool) (p q : Fx) → FitsFormat to (outcome p) → FitsFormat to (outcome q)
    → FitsFormat to (outcome (if b then p else q))
if_fits to true p q h k = h
if_fits to false p q h k = k

shift_fits : (left : Bool) (x : FixedNumber) (b : Num) (mode : Mode) → FitsFormat x.format (shift_value left (FixedNum x) b mode)
shift_fits left x (FixedNum y) mode = tt
shift_fits left x (Whole count) mode = by_count (is_count x.format.bits count)
  where
    by_count : (c : Bool) → FitsFormat x.format (if c then outcome (shift_of x (unsigned_abs count) left mode) else Err ShiftCount)
    by_count true = fit_fits x.format mode _
    by_count false = tt

fit_held : (t : FixedType) (mode : Mode) (n : ℤ) → FixedHeld t (outcome (fit (format_of t.kind) mode n))
fit_held t mode n = as_held t _ (fit_fits (format_of t.kind) mode n)

pub conversion_held : (to : Arithmetic) (mode : Mode) (a : Num) → IsKnownType to → Held to (conversion_value to mode a)
conversion_held (Integer t) mode (Whole n) k = (k, wrapped_held t n k)
conversion_held (Integer t) mode (FixedNum x) k = whole_part (integer_of x t.signed (width_of t)) refl
  where
    whole_part : (o : Option ℤ) → integer_of x t.signed (width_of t) ≡ o → Held (Integer t) (ok_or o WholePart)
    whole_part None e = tt
    whole_part (Some m) e = (k, within t.signed (width_of t) (rounded (exact_whole x)) m (sym e))
conversion_held (Fixed t) mode a k = fixed_result t _ (fit_held t mode _)

-- ---- operators on numbers of types

integer_known : (a b : IntegerType) → IsInteger a → IsInteger b → IsInteger (common_integer a b)
integer_known a b i j = wider (promoted a) (promoted b) (promoted_known a i) (promoted_known b j)
  where
    chosen : (c : Bool) (x y : IntegerType) → IsInteger x → IsInteger y → IsInteger (if c then x else y)
    chosen true x y p q = p
    chosen false x y p q = q

    promoted_known : (x : IntegerType) → IsInteger x → IsInteger (promoted x)
    promoted_known x p = chosen (nat_lt x.bytes 2) int_type x (inr (inl refl)) p

    wider : (x y : IntegerType) → IsInteger x → IsInteger y → IsInteger (wider_or_unsigned x y)
    wider x y p q = chosen (nat_lt x.bytes y.bytes) y _ q
        (chosen (nat_lt y.bytes x.bytes) x (record { signed = x.signed && y.signed; bytes = x.bytes }) p p)

pub common_known : (x y : Arithmetic) → IsKnownType x → IsKnownType y → IsKnownType (common x y)
common_known (Integer a) (Integer b) i j = integer_known a b i j
common_known (Integer a) (Fixed b) i j = tt
common_known (Fixed a) (Integer b) i j = tt
common_known (Fixed a) (Fixed b) i j = tt

known_as : (t u : Arithmetic) → t ≡ u → IsKnownType u → IsKnownType t
known_as t u e k = subst (λ (z : Arithmetic). IsKnownType z) (sym e) k

abbrev integer_of_size : Bool → ℕ → IntegerType
integer_of_size s n = record { signed = s; bytes = n }

same_integer : (s : Bool) (n : ℕ) → s ≡ true → n ≡ 2 → integer_of_size s n ≡ int_type
same_integer s n e f = ap (λ x. integer_of_size x n) e ∙ ap (λ x. integer_of_size true x) f

pub int_only : (t : Arithmetic) → type_of t ≡ int → t ≡ Integer int_type
int_only (Integer t) e = let s : t.signed ≡ true = cc in let b : t.bytes ≡ 2 = cc in ap Integer (same_integer t.signed t.bytes s b)
int_only (Fixed t) e = cc

int_known : (t : Arithmetic) → type_of t ≡ int → IsKnownType t
int_known t e = known_as t (Integer int_type) (int_only t e) (inr (inl refl))

-- the result type of an operator on known types
pub result_known : (op : BinOp) (t x y : Arithmetic) → HaveArithmeticTypes op t x y → IsKnownType x → IsKnownType y → IsKnownType t
result_known Add t x y h i j = known_as t _ h.value (common_known x y i j)
result_known Sub t x y h i j = known_as t _ h.value (common_known x y i j)
result_known Mul t x y h i j = known_as t _ h.value (common_known x y i j)
result_known Div t x y h i j = known_as t _ h.value (common_known x y i j)
result_known Rem t x y h i j = known_as t _ h.usual.value (common_known x y i j)
result_known Shl t x y h i j = known_as t _ h.value i
result_known Shr t x y h i j = known_as t _ h.value i
result_known And t x y h i j = known_as t _ h.usual.value (common_known x y i j)
result_known Or t x y h i j = known_as t _ h.usual.value (common_known x y i j)
result_known Xor t x y h i j = known_as t _ h.usual.value (common_known x y i j)
result_known Lt t x y h i j = int_known t h.value
result_known Gt t x y h i j = int_known t h.value
result_known Le t x y h i j = int_known t h.value
result_known Ge t x y h i j = int_known t h.value
result_known Eq t x y h i j = int_known t h.value
result_known Ne t x y h i j = int_known t h.value

compared_held : (t : Arithmetic) (b : Bool) → type_of t ≡ int → HoldsNumber t (truth b)
compared_held t b e = subst (λ (z : Arithmetic). HoldsNumber z (truth b)) (sym (int_only t e)) (truth_number b)

-- both operands of integer kind have a common type of that kind
no_fixed : (x y : Arithmetic) (t : FixedType) → IsIntegerKind x → IsIntegerKind y → Fixed t ≡ common x y → ⊥
no_fixed (Integer a) (Integer b) t i j e = cc
no_fixed (Integer a) (Fixed b) t i j e = j
no_fixed (Fixed a) y t i j e = i

if_fixed : (t : FixedType) (b : Bool) (p q : Fx) → FixedHeld t (outcome p) → FixedHeld t (outcome q)
    → FixedHeld t (outcome (if b then p else q))
if_fixed t true p q h k = h
if_fixed t false p q h k = k

shift_held : (left : Bool) (t : FixedType) (x y : Arithmetic) (mode : Mode) (m n : ℤ) → Fixed t ≡ x
    → FixedHeld t (shift_value left (operand x m) (operand y n) mode)
shift_held left t (Integer u) y mode m n e = cc
shift_held left t (Fixed u) y mode m n e =
    let same : t ≡ u = cc in
    subst (λ (z : FixedType). FixedHeld z (shift_value left (operand (Fixed u) m) (operand y n) mode)) (sym same)
    (as_held u _ (shift_fits left (fixed_number u m) (operand y n) mode))

fixed_held : (op : BinOp) (t : FixedType) (x y : Arithmetic) (mode : Mode) (m n : ℤ) → is_comparison op ≡ false
    → HaveArithmeticTypes op (Fixed t) x y → FixedHeld t (fixed_value op (format_of t.kind) (operand x m) (operand y n) mode)
fixed_held Add t x y mode m n c h = fit_held t mode _
fixed_held Sub t x y mode m n c h = fit_held t mode _
fixed_held Mul t x y mode m n c h = fit_held t mode _
fixed_held Div t x y mode m n c h = if_fixed t (int_eq (scaled (operand y n)) (pos 0)) ByZero _ tt
    (fit_held t mode (rounded (quotient_in (operand x m) (operand y n) (format_of t.kind))))
fixed_held Rem t x y mode m n c h = absurd (no_fixed x y t h.left h.right h.usual.value)
fixed_held Shl t x y mode m n c h = shift_held true t x y mode m n h.value
fixed_held Shr t x y mode m n c h = shift_held false t x y mode m n h.value
fixed_held And t x y mode m n c h = absurd (no_fixed x y t h.left h.right h.usual.value)
fixed_held Or t x y mode m n c h = absurd (no_fixed x y t h.left h.right h.usual.value)
fixed_held Xor t x y mode m n c h = absurd (no_fixed x y t h.left h.right h.usual.value)
fixed_held Lt t x y mode m n c h = cc
fixed_held Gt t x y mode m n c h = cc
fixed_held Le t x y mode m n c h = cc
fixed_held Ge t x y mode m n c h = cc
fixed_held Eq t x y mode m n c h = cc
fixed_held Ne t x y mode m n c h = cc

typed_held : (op : BinOp) (t x y : Arithmetic) (mode : Mode) (m n : ℤ) → is_comparison op ≡ false → HaveArithmeticTypes op t x y
    → IsKnownType t → Held t (typed_value op t mode (operand x m) (operand y n))
typed_held op (Integer t) x y mode m n c h k = integer_result t _ k (integer_held op t (scaled (operand x m)) (scaled (operand y n)) c k)
typed_held op (Fixed t) x y mode m n c h k = fixed_result t _ (fixed_held op t x y mode m n c h)

-- a comparison has type int
int_result : (op : BinOp) (t x y : Arithmetic) → is_comparison op ≡ true → HaveArithmeticTypes op t x y → type_of t ≡ int
int_result Add t x y c h = cc
int_result Sub t x y c h = cc
int_result Mul t x y c h = cc
int_result Div t x y c h = cc
int_result Rem t x y c h = cc
int_result Shl t x y c h = cc
int_result Shr t x y c h = cc
int_result And t x y c h = cc
int_result Or t x y c h = cc
int_result Xor t x y c h = cc
int_result Lt t x y c h = h.value
int_result Gt t x y c h = h.value
int_result Le t x y c h = h.value
int_result Ge t x y c h = h.value
int_result Eq t x y c h = h.value
int_result Ne t x y c h = h.value

pub arithmetic_held : (op : BinOp) (t x y : Arithmetic) (mode : Mode) (m n : ℤ) → HaveArithmeticTypes op t x y → IsKnownType x
    → IsKnownType y → Held t (arithmetic_value op t mode (operand x m) (operand y n))
arithmetic_held op t x y mode m n h i j = by_kind (is_comparison op) refl
  where
    by_kind : (b : Bool) → is_comparison op ≡ b
        → Held t (if b then compared op (order_of (operand x m) (operand y n)) else typed_value op t mode (operand x m) (operand y n))
    by_kind true c = compared_held t _ (int_result op t x y c h)
    by_kind false c = typed_held op t x y mode m n c h (result_known op t x y h i j)

pub unary_held : (op : UnOp) (t : Arithmetic) (mode : Mode) (n : ℤ) → HaveUnaryTypes op t → HoldsNumber t n
    → Held t (unary_value op t mode n)
unary_held Minus (Integer t) mode n h v = (v.0, wrapped_held t _ v.0)
unary_held Minus (Fixed t) mode n h v = fixed_result t _ (fit_held t mode _)
unary_held Invert (Integer t) mode n h v = (v.0, wrapped_held t _ v.0)
unary_held Invert (Fixed t) mode n h v = absurd h.0

-- what a compound assignment writes
pub compound_held : (op : BinOp) (own mode : Mode) (x y : Arithmetic) (m n : ℤ) → IsKnownType x
    → Held x (compound_value op own mode x m y n)
compound_held op own mode x y m n k = by_result (operation_value op (operation_types op x y) own x m y n)
  where
    by_result : (r : Result ℤ Undefined) → Held x (then_with r (λ z. brought x mode (operation_types op x y).result z))
    by_result (Ok z) = conversion_held x mode _ k
    by_result (Err point) = tt

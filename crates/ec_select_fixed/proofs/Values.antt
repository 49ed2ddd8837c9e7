-- Operands that stand in bytes, and the bytes of results.
use Rattle.std.proofs.Common.{◌≡◌, ◌⊎◌, ⊎_elim, ℕ, zero, suc, ◌+◌, ◌-◌, ◌*◌, ◌/◌, ◌^◌, ◌%◌, ◌<◌, ◌≤◌, ◌==◌, Bool, true, false, ℤ, pos}
use Rattle.std.proofs.Common.{negsuc, ◌-ℤ◌, ◌+ℤ◌, unsigned_abs, refl, sym, ap, ◌∙◌, subst, arith, pow-add}
use Rattle.std.specs.Prelude.{if◌then◌else◌, nat_lt, nat_le, ◌&&◌, ◌≤ℤ◌, Result, Ok, Err, int_lt, neg_ℤ, ⊤}
use Rattle.std.specs.Int.{int_rem_euclid}
use Rattle.std.proofs.lemmas.Bool.{cases_lt, lt-ltb, le-leb, lt-leb, le-ltb}
use Rattle.std.proofs.lemmas.Int.{ints, int_rem_euclid_is}
use Rattle.std.proofs.lemmas.Nat.{mod-mul-add, pow_pos}
use Rattle.std.proofs.Math.Nat.{pow-le-pow_right}
use native.Mathlib.Nat.{pow-suc}
use Rattle.ec_fx.specs.declared.formats.Format.{Format}
use Rattle.ec_fx.specs.declared.numbers.Fixed.{Fixed as FixedNumber}
use Rattle.ec_fx.specs.declared.numbers.Fx.{Fx}
use Rattle.ec_fx.specs.declared.numbers.Fx.TheVariants.{Got, Overflow, ZeroDivisor}
use Rattle.ec_fx.specs.declared.numbers.Mode.{Mode}
use Rattle.ec_fx.specs.declared.numbers.Num.{Num}
use Rattle.ec_fx.specs.declared.numbers.Num.TheVariants.{Whole, Fixed as FixedNum}
use Rattle.ec_fx.specs.Formats.{format_of}
use Rattle.ec_fx.specs.Ranges.{least, greatest, IsWithin}
use Rattle.ec_fx.specs.Results.{clamped, fit}
use Rattle.ec_core.specs.declared.values.Undefined.{Undefined}
use Rattle.ec_core.specs.declared.values.Value.{Value}
use Rattle.ec_core.specs.declared.values.Value.TheVariants.{Number}
use Rattle.ec_core.specs.ArithmeticValues.{operand, outcome}
use Rattle.ec_core.specs.Layout.{scalar_size}
use Rattle.ec_core.specs.Operators.{as_number, number_type}
use Rattle.ec_core.specs.Plain.{PlainType, void, integer, fixed, pointer, array, struct}
use Rattle.ec_ir.specs.Temporaries.{bits, low_bytes, number_of_bytes, value_in}
use Rattle.ec_asm.proofs.Numbers.{pow_pos as byte_pow_pos}
use Rattle.ec_fxcode.specs.ClampLaws.{signed_number, in_bytes, HoldsResult}
use Rattle.ec_fxcode_shifts.specs.ShiftLaws.{number_in, fixed_in}
use Rattle.ec_fxcode_quotients.specs.QuotientLaws.{operand_in}
use Rattle.ec_select_fixed.specs.Types.{IsNumberType, format_in}
use Rattle.ec_select_fixed.proofs.Formats.{kind_frac}

-- ---- numbers in bytes

same_signed : (n x : ℕ) → number_of_bytes true n x ≡ signed_number n x
same_signed n x =
    ⊎_elim
    (λ (l : 2 * x < 256 ^ n). let p = lt-ltb (2 * x) (256 ^ n) l in let q = lt-leb (256 ^ n) (2 * x) l in rw (p, q) refl)
    (λ (l : 256 ^ n ≤ 2 * x). let p = le-ltb (2 * x) (256 ^ n) l in let q = le-leb (256 ^ n) (2 * x) l in rw (p, q) refl)
    (cases_lt (2 * x) (256 ^ n))

pub same_number : (signed : Bool) (n x : ℕ) → number_of_bytes signed n x ≡ number_in signed n x
same_number true n x = same_signed n x
same_number false n x = refl

-- ---- operands

-- the number of a type that bytes stand for, and the operand that it is
pub record IsOperand (ty : PlainType) (x : ℕ) (v : Value) : Type 0 where
  pub number : ℤ
  pub value_is : v ≡ Number number
  pub operand_is : operand (number_type ty) number ≡ operand_in (format_in ty) (scalar_size ty) x

abbrev operand_by : (whole : Bool) → Format → (n x : ℕ) → Num
operand_by whole f n x = if whole then Whole (number_in f.signed n x) else FixedNum (fixed_in f n x)

abbrev fixed_of : Format → ℤ → FixedNumber
fixed_of f n = record { format = f; n = n }

pub number_told : (m : ℤ) (v : Value) (r : Result Value Undefined) → r ≡ Ok v → r ≡ Ok (Number m) → v ≡ Number m
number_told m v r e f = cc

pub operand_read : (ty : PlainType) → IsNumberType ty → (x : ℕ) (v : Value) → value_in ty (bits x) ≡ Ok v → IsOperand ty x v
operand_read void h x v e = absurd h
operand_read (integer signed bytes) h x v e = record {
  number = number_of_bytes signed bytes x;
  value_is = number_told (number_of_bytes signed bytes x) v (value_in (integer signed bytes) (bits x)) e refl;
  operand_is = ap Whole (same_number signed bytes x);
}
operand_read (fixed kind saturates) h x v e =
    let f = format_of kind in
    record {
      number = number_of_bytes f.signed (f.bits / 8) x;
      value_is = number_told (number_of_bytes f.signed (f.bits / 8) x) v (value_in (fixed kind saturates) (bits x)) e refl;
      operand_is = ap (λ m. FixedNum (fixed_of f m)) (same_number f.signed (f.bits / 8) x)
          ∙ ap (λ b. operand_by b f (f.bits / 8) x) (sym (kind_frac kind));
    }
operand_read (pointer space const to) h x v e = absurd h
operand_read (array of len) h x v e = absurd h
operand_read (struct index) h x v e = absurd h

-- ---- the bytes of a number that is in range

pub powers : (b : ℕ) → 2 ^ (8 * b) ≡ 256 ^ b
powers zero = refl
powers (suc b) =
    let e : 8 * suc b ≡ 8 * b + 8 = omega arith in
    ap (λ k. 2 ^ k) e ∙ pow-add 2 (8 * b) 8 ∙ ap (λ t. t * 2 ^ 8) (powers b) ∙ sym (pow-suc 256 b)

pub low_of : (z : ℤ) (b k m : ℕ) → z +ℤ pos (k * 256 ^ b) ≡ pos m → m < 256 ^ b → low_bytes b z ≡ m
low_of z b k m e l =
    let r : m ≡ 0 * 256 ^ b + m = omega arith in
    ap unsigned_abs (int_rem_euclid_is z (pos (256 ^ b)) (256 ^ b) k m (byte_pow_pos b) refl e)
    ∙ ap (λ t. t % 256 ^ b) r ∙ mod-mul-add 0 (256 ^ b) m l

half_below : (width : ℕ) → 2 ^ (width - 1) ≤ 2 ^ width
half_below width = pow-le-pow_right {n = 2} (omega arith) {i = width - 1} {j = width} (omega arith)

low_end : (signed : Bool) (width a : ℕ) → least signed width ≤ℤ negsuc a → suc a ≤ 2 ^ width
low_end true width a h = let l = half_below width in omega (arith, ints, h, l)
low_end false width a h = absurd (omega (arith, ints, h))

high_end : (signed : Bool) (width a : ℕ) → pos a ≤ℤ greatest signed width → a < 2 ^ width
high_end true width a h = let l = half_below width in let p = pow_pos (width - 1) in omega (arith, ints, h, l, p)
high_end false width a h = let p = pow_pos width in omega (arith, ints, h, p)

pub in_range : (signed : Bool) (width k : ℕ) (n : ℤ) → width ≡ 8 * k → IsWithin signed width n → low_bytes k n ≡ in_bytes k n
in_range signed width k (pos a) e h =
    let l : a < 2 ^ width = high_end signed width a h.high in
    let q : 2 ^ width ≡ 256 ^ k = ap (λ t. 2 ^ t) e ∙ powers k in
    low_of (pos a) k 0 a (omega (arith, ints)) (omega (arith, l, q))
in_range signed width k (negsuc a) e h =
    let l : suc a ≤ 2 ^ width = low_end signed width a h.low in
    let q : 2 ^ width ≡ 256 ^ k = ap (λ t. 2 ^ t) e ∙ powers k in
    low_of (negsuc a) k 1 (256 ^ k - (a + 1)) (omega (arith, ints, l, q)) (omega (arith, l, q))

-- ---- results

-- a result, if there is one, is in the range of a format
abbrev pub FitsFormat : Format → Fx → Type 0
FitsFormat to (Got x) = IsWithin to.signed to.bits x.n
FitsFormat to Overflow = ⊤
FitsFormat to ZeroDivisor = ⊤

ends_in_order : (signed : Bool) (width : ℕ) → least signed width ≤ℤ greatest signed width
ends_in_order true width = let p = pow_pos (width - 1) in omega (arith, ints, p)
ends_in_order false width = let p = pow_pos width in omega (arith, ints, p)

clamped_fits : (to : Format) (mode : Mode) (end : ℤ) → IsWithin to.signed to.bits end → FitsFormat to (clamped to mode end)
clamped_fits to mode end h = by_mode mode.saturate
  where
    by_mode : (b : Bool) → FitsFormat to (if b then Got (record { format = to; n = end }) else Overflow)
    by_mode true = h
    by_mode false = tt

not_less : (x y : ℤ) → int_lt x y ≡ false → y ≤ℤ x
not_less x y e = omega (arith, ints)

pub fit_fits : (to : Format) (mode : Mode) (n : ℤ) → FitsFormat to (fit to mode n)
fit_fits to mode n = by_tests (int_lt (greatest to.signed to.bits) n) (int_lt n (least to.signed to.bits)) refl refl
  where
    by_tests : (b c : Bool) → int_lt (greatest to.signed to.bits) n ≡ b → int_lt n (least to.signed to.bits) ≡ c
        → FitsFormat to (if b then clamped to mode (greatest to.signed to.bits)
        else (if c then clamped to mode (least to.signed to.bits) else Got (record { format = to; n = n })))
    by_tests true c e f =
        clamped_fits to mode (greatest to.signed to.bits) (record { low = ends_in_order to.signed to.bits; high = omega (arith, ints) })
    by_tests false true e f =
        clamped_fits to mode (least to.signed to.bits) (record { low = omega (arith, ints); high = ends_in_order to.signed to.bits })
    by_tests false false e f = record { low = not_less n (least to.signed to.bits) f; high = not_less (greatest to.signed to.bits) n e }

pub if_fits : (to : Format) (b : Bool) (p q : Fx) → FitsFormat to p → FitsFormat to q → FitsFormat to (if b then p else q)
if_fits to true p q h k = h
if_fits to false p q h k = k

-- the bytes of a result that k bytes hold
pub result_bytes : (to : Format) (k z : ℕ) (answer : Fx) (r : ℤ) → to.bits ≡ 8 * k → FitsFormat to answer
    → HoldsResult k answer z → outcome answer ≡ Ok r → low_bytes k r ≡ z
result_bytes to k z (Got x) r e h g o =
    let same : r ≡ x.n = cc in
    ap (low_bytes k) same ∙ in_range to.signed to.bits k x.n e h ∙ sym g
result_bytes to k z Overflow r e h g o = cc
result_bytes to k z ZeroDivisor r e h g o = cc

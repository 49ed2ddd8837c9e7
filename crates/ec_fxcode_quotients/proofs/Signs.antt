-- The signs of the operands and of the quotient.
use Rattle.std.proofs.Common.{◌≡◌, ℕ, zero, suc, ◌+◌, ◌-◌, ◌*◌, ◌/◌, ◌^◌, ◌<◌, ◌≤◌, ◌⊎◌, inl, inr, ⊎_elim, Bool, true, false, ◌==◌}
use Rattle.std.proofs.Common.{if◌then◌else◌, bit_xor, refl, sym, ap, ◌∙◌, arith, ℤ, pos, negsuc, neg_ℤ, ◌*ℤ◌, unsigned_abs, int_lt}
use Rattle.std.specs.Ordering.{int_eq}
use Rattle.std.proofs.lemmas.Bool.{cases_lt, eqb-true}
use Rattle.std.proofs.lemmas.Int.{ints}
use Rattle.std.proofs.Math.IntN.{neg_ℤ-neg_ℤ}
use native.Mathlib.Nat.{zero-div}
use Rattle.ec_fx.specs.declared.formats.Format.{Format}
use Rattle.ec_fx.specs.declared.numbers.Mode.{Mode}
use Rattle.ec_fx.specs.declared.numbers.Num.TheVariants.{Whole, Fixed as FixedNum}
use Rattle.ec_fx.specs.declared.numbers.Fx.TheVariants.{ZeroDivisor}
use Rattle.ec_fx.specs.Arithmetic.{turned, quotient_of}
use Rattle.ec_fx.specs.Numbers.{scaled, fraction_bits}
use Rattle.ec_fx.specs.Results.{fit}
use Rattle.ec_fx.specs.Rounding.{trunc}
use Rattle.ec_asm.specs.Pieces.{value}
use Rattle.ec_asm.specs.PieceLaws.{AreHeld}
use Rattle.ec_asm.proofs.Numbers.{value_below}
use Rattle.ec_fxcode.specs.ClampLaws.{signed_number, HoldsResult}
use Rattle.ec_fxcode.proofs.Fits.{plus, minus}
use Rattle.ec_fxcode.proofs.Parts.{sign_is}
use Rattle.ec_fxcode_shifts.specs.ShiftLaws.{number_in, fixed_in}
use Rattle.ec_fxcode_shifts.proofs.Entered.{mark_of}
use Rattle.ec_fxcode_shifts.proofs.Right.{IsNegatedBy, magnitude_is}
use Rattle.ec_fxcode_quotients.specs.QuotientLaws.{operand_in}

-- a number x with the magnitude M, and the byte of its sign
abbrev pub IsSignedBy : (byte M : ℕ) → ℤ → Type 0
IsSignedBy byte M x = ((byte ≡ 0) × (x ≡ pos M)) ⊎ ((byte ≡ 255) × (1 ≤ M) × (x ≡ neg_ℤ (pos M)))

neg_some : (m : ℕ) → 1 ≤ m → negsuc (m - 1) ≡ neg_ℤ (pos m)
neg_some zero l = absurd (omega arith)
neg_some (suc m) l = let e : suc m - 1 ≡ m = omega arith in ap negsuc e

pub operand_signed : (signed : Bool) (f : ℕ → ℕ) (a n M : ℕ) → AreHeld f a (suc n)
    → IsNegatedBy (mark_of signed (f (a + n))) (256 ^ suc n) (value f a (suc n)) M
    → IsSignedBy (mark_of signed (f (a + n))) M (number_in signed (suc n) (value f a (suc n)))
operand_signed false f a n M held h = inl (refl, ap pos (sym (h.plus_is refl)))
operand_signed true f a n M held h =
    let N = 256 ^ suc n in
    let A = value f a (suc n) in
    let below = value_below f a (suc n) held in
    let sign = sign_is f a n held in
    ⊎_elim
    (λ (less : 2 * A < N).
    let z = sign.plus less in
    inl (z, plus (suc n) A less ∙ ap pos (sym (h.plus_is z))))
    (λ (more : N ≤ 2 * A).
    let z = sign.minus more in
    let m = h.minus_is z in
    let mag : M ≡ N - A = magnitude_is M A N m.0 m.1 m.2 below more in
    inr (
      z,
      omega (arith, mag, below),
      minus (suc n) A more below ∙ neg_some (N - A) (omega (arith, below)) ∙ ap (λ t. neg_ℤ (pos t)) (sym mag),
    ))
    (cases_lt (2 * A) N)

-- ---- the exact quotient, rounded

trunc_negated : (m q : ℕ) → trunc (neg_ℤ (pos m)) q ≡ neg_ℤ (pos (m / q))
trunc_negated zero q = rw (zero-div q) refl
trunc_negated (suc m) q = refl

scale_negated : (m k : ℕ) → neg_ℤ (pos m) *ℤ pos k ≡ neg_ℤ (pos (m * k))
scale_negated zero k = let e : 0 * k ≡ 0 = omega arith in rw e refl
scale_negated (suc m) k = refl

turned_plus : (d : ℕ) (z : ℤ) → turned (pos d) z ≡ z
turned_plus d z = let e : int_lt (pos d) (pos 0) ≡ false = grind (arith, ints) in rw e refl

turned_minus : (d : ℕ) (z : ℤ) → 1 ≤ d → turned (neg_ℤ (pos d)) z ≡ neg_ℤ z
turned_minus zero z l = absurd (omega arith)
turned_minus (suc d) z l = refl

abs_minus : (d : ℕ) → unsigned_abs (neg_ℤ (pos d)) ≡ d
abs_minus zero = refl
abs_minus (suc d) = refl

-- what stands for a magnitude Q by the byte of its sign
pub record IsResult (byte Q : ℕ) (z : ℤ) : Type 0 where
  pub plus_is : byte ≡ 0 → z ≡ pos Q
  pub minus_is : byte ≡ 255 → z ≡ neg_ℤ (pos Q)
  pub either : (byte ≡ 0) ⊎ (byte ≡ 255)

result_plus : (byte Q : ℕ) (z : ℤ) → byte ≡ 0 → z ≡ pos Q → IsResult byte Q z
result_plus byte Q z e h = record {
  plus_is = λ x. h;
  minus_is = λ x. absurd (let q : 0 ≡ 255 = sym e ∙ x in omega (arith, q));
  either = inl e;
}

result_minus : (byte Q : ℕ) (z : ℤ) → byte ≡ 255 → z ≡ neg_ℤ (pos Q) → IsResult byte Q z
result_minus byte Q z e h = record {
  plus_is = λ x. absurd (let q : 255 ≡ 0 = sym e ∙ x in omega (arith, q));
  minus_is = λ x. h;
  either = inr e;
}

-- x has the magnitude A, and y, which is not 0, the magnitude D; p and q are powers of two
pub exact_result : (s t A D p q : ℕ) (x y : ℤ) → IsSignedBy s A x → IsSignedBy t D y
    → IsResult (bit_xor t s) (A * p / (D * q)) (trunc (turned y (x *ℤ pos p)) (unsigned_abs y * q))
exact_result s t A D p q x y (inl a) (inl d) =
    let e : bit_xor t s ≡ 0 = rw (a.0, d.0) refl in
    result_plus (bit_xor t s) (A * p / (D * q)) _ e
    (rw (a.1, d.1, turned_plus D (pos (A * p))) refl)
exact_result s t A D p q x y (inl a) (inr d) =
    let e : bit_xor t s ≡ 255 = rw (a.0, d.0) refl in
    result_minus (bit_xor t s) (A * p / (D * q)) _ e
    (rw (a.1, d.2, turned_minus D (pos (A * p)) d.1, abs_minus D) (trunc_negated (A * p) (D * q)))
exact_result s t A D p q x y (inr a) (inl d) =
    let e : bit_xor t s ≡ 255 = rw (a.0, d.0) refl in
    result_minus (bit_xor t s) (A * p / (D * q)) _ e
    (rw (a.2, d.1, scale_negated A p, turned_plus D (neg_ℤ (pos (A * p)))) (trunc_negated (A * p) (D * q)))
exact_result s t A D p q x y (inr a) (inr d) =
    let e : bit_xor t s ≡ 0 = rw (a.0, d.0) refl in
    result_plus (bit_xor t s) (A * p / (D * q)) _ e
    (rw (a.2, d.2, scale_negated A p, turned_minus D (neg_ℤ (pos (A * p))) d.1, neg_ℤ-neg_ℤ (pos (A * p)), abs_minus D) refl)

-- ---- the result in bytes

-- Z is Q, negated where the byte is 255, in m bytes
pub signed_result : (byte Q m Z : ℕ) (z : ℤ) → 2 * Q < 256 ^ m → Z < 256 ^ m → IsNegatedBy byte (256 ^ m) Q Z → IsResult byte Q z
    → signed_number m Z ≡ z
signed_result byte Q m Z z l b h r =
    ⊎_elim
    (λ (e : byte ≡ 0).
    let is = h.plus_is e in
    ap (signed_number m) is ∙ plus m Q l ∙ sym (r.plus_is e))
    (λ (e : byte ≡ 255).
    let is = h.minus_is e in
    by Q Z is.0 (256 ^ m) refl l b is.1 is.2 ∙ sym (r.minus_is e))
    r.either
  where
    by : (Q Z t N : ℕ) → 256 ^ m ≡ N → 2 * Q < N → Z < N → t ≤ 1 → Z + Q ≡ t * N → signed_number m Z ≡ neg_ℤ (pos Q)
    by zero Z zero N n l b c e =
        let zero_is : Z ≡ 0 = omega (arith, e) in
        ap (signed_number m) zero_is ∙ plus m 0 (rw n (omega (arith, l)))
    by zero Z (suc t) N n l b c e = absurd (one Z t N b c e)
      where
        one : (Z t N : ℕ) → Z < N → suc t ≤ 1 → Z + 0 ≡ suc t * N → ⊥
        one Z zero N b c e = omega (arith, b, e)
        one Z (suc t) N b c e = absurd (omega (arith, c))
    by (suc q) Z zero N n l b c e = absurd (omega (arith, e))
    by (suc q) Z (suc zero) N n l b c e =
        let same : N - Z - 1 ≡ q = omega (arith, e, b) in
        minus m Z (rw n (omega (arith, e, l))) (rw n b) ∙ ap negsuc (ap (λ i. i - Z - 1) n ∙ same)
    by (suc q) Z (suc (suc t)) N n l b c e = absurd (omega (arith, c))

-- ---- operands

pub scaled_is : (f : Format) (n x : ℕ) → scaled (operand_in f n x) ≡ number_in f.signed n x
scaled_is f n x = by (f.frac == 0)
  where
    by : (b : Bool) → scaled (if b then Whole (number_in f.signed n x) else FixedNum (fixed_in f n x)) ≡ number_in f.signed n x
    by true = refl
    by false = refl

pub fraction_is : (f : Format) (n x : ℕ) → fraction_bits (operand_in f n x) ≡ f.frac
fraction_is f n x = by (f.frac == 0) refl
  where
    by : (b : Bool) → (f.frac == 0) ≡ b → fraction_bits (if b then Whole (number_in f.signed n x) else FixedNum (fixed_in f n x)) ≡ f.frac
    by true e = sym (eqb-true f.frac 0 e)
    by false e = refl

-- the result of a division, where the divisor is not 0
pub holds_quotient : (f g to : Format) (mode : Mode) (a b x y k X D : ℕ) (t : ℕ) → IsSignedBy t D (number_in g.signed b y)
    → (1 ≤ D → HoldsResult k (fit to mode (trunc (turned (number_in g.signed b y) (number_in f.signed a x *ℤ pos (2 ^ (g.frac + to.frac))))
    (unsigned_abs (number_in g.signed b y) * 2 ^ f.frac))) X)
    → HoldsResult k (quotient_of (operand_in f a x) (operand_in g b y) to mode) X
holds_quotient f g to mode a b x y k X D t d h =
    rw (scaled_is f a x, scaled_is g b y, fraction_is f a x, fraction_is g b y)
    (by (int_eq (number_in g.signed b y) (pos 0)) refl)
  where
    some : (d : ℕ) (s : ℕ) (y : ℤ) → IsSignedBy s d y → int_eq y (pos 0) ≡ false → 1 ≤ d
    some zero s y (inl e) q = absurd (let z : true ≡ false = ap (λ i. int_eq i (pos 0)) (sym e.1) ∙ q in cc)
    some (suc d) s y (inl e) q = omega arith
    some d s y (inr e) q = e.1

    by : (z : Bool) → int_eq (number_in g.signed b y) (pos 0) ≡ z
        → HoldsResult k (if z then ZeroDivisor else fit to mode (trunc (turned (number_in g.signed b y)
        (number_in f.signed a x *ℤ pos (2 ^ (g.frac + to.frac)))) (unsigned_abs (number_in g.signed b y) * 2 ^ f.frac))) X
    by true e = tt
    by false e = h (some D t (number_in g.signed b y) d e)

-- How large operands are.
use Rattle.std.proofs.Common.{◌≡◌, ◌≢◌, ℕ, zero, suc, ◌+◌, ◌-◌, ◌*◌, ◌^◌, ◌<◌, ◌≤◌, ◌⊎◌, inl, inr, Bool, true, false, refl, sym, ◌∙◌, subst}
use Rattle.std.proofs.Common.{arith, lit<, ℤ, pos, negsuc, ◌*ℤ◌, unsigned_abs, max, nat_lt, if◌then◌else◌, min, ap, to_z, of_z, to_z-of_z}
use Rattle.std.proofs.Common.{FitsSigned, ◌+ℤ◌, ◌-ℤ◌}
use lib.Signed.{mag}
use borrow.Author.Differences.{up, down}
use Rattle.std.specs.Int.{w128}
use Rattle.std.proofs.Math.Nat.{pow-le-pow_right}
use Rattle.std.proofs.lemmas.Int.{ints, unsigned_abs-mul, fits_signed_from_abs}
use Rattle.std.proofs.lemmas.Nat.{pow_below, pow_pos, mul-lt, mul-le}
use Rattle.ec_fx.specs.declared.formats.Format.{Format}
use Rattle.ec_fx.specs.declared.numbers.Fixed.{Fixed}
use Rattle.ec_fx.specs.declared.numbers.Num.{Num}
use Rattle.ec_fx.specs.declared.numbers.Num.TheVariants.{Whole, Fixed as FixedNum}
use Rattle.ec_fx.specs.Formats.{rank_of, higher, IsFormat}
use Rattle.ec_fx.specs.Ranges.{IsWithin}
use Rattle.ec_fx.specs.Numbers.{scaled, fraction_bits, IsFixed, IsNumber}
use Rattle.ec_fx.specs.Arithmetic.{IsResultFormat, IsOneByte}

-- the widths of a format
pub record HasBits (f : Format) : Type 0 where
  pub some : 8 ≤ f.bits
  pub most : f.bits ≤ 64
  pub frac : f.frac ≤ 32
  pub narrow : (f.bits ≤ 32) ⊎ (31 ≤ f.frac)

pub format_bits : (f : Format) → IsFormat f → HasBits f
format_bits f h = record {
  some = grind (arith, h.step, h.width);
  most = grind (arith, h.step, h.width);
  frac = grind (arith, h.step, h.width);
  narrow = grind (arith, h.step, h.width);
}

pub within_size : (signed : Bool) (bits : ℕ) (n : ℤ) → 1 ≤ bits → IsWithin signed bits n → unsigned_abs n < 2 ^ bits
within_size true bits n h w = omega (arith, ints, w.low, w.high, pow_below (bits - 1) bits (omega arith))
within_size false bits n h w = omega (arith, ints, w.low, w.high, pow_pos bits)

pub pow2-le : (i j : ℕ) → i ≤ j → 2 ^ i ≤ 2 ^ j
pow2-le i j h = pow-le-pow_right (lit< tt) h

-- what is known of the number n of an operand with f fraction bits
pub record IsBounded (n : ℤ) (f : ℕ) : Type 0 where
  pub size : unsigned_abs n < 2 ^ 64
  pub frac : f ≤ 32
  pub narrow : (unsigned_abs n < 2 ^ 32) ⊎ (31 ≤ f)

pub fixed_bounded : (x : Fixed) → IsFixed x → IsBounded x.n x.format.frac
fixed_bounded x h =
    let b : HasBits x.format = format_bits x.format h.known in
    let s : unsigned_abs x.n < 2 ^ x.format.bits = within_size x.format.signed x.format.bits x.n (omega (arith, b.some)) h.in_range in
    record {
      size = omega (arith, s, pow2-le x.format.bits 64 b.most);
      frac = b.frac;
      narrow = elim b.narrow [ inl p ↦ inl (omega (arith, s, pow2-le x.format.bits 32 p)) | inr p ↦ inr p ];
    }

pub number_bounded : (a : Num) → IsNumber a → IsBounded (scaled a) (fraction_bits a)
number_bounded (Whole n) h =
    let s : unsigned_abs n < 2 ^ 32 = omega (arith, ints, h.low, h.high) in
    record { size = omega (arith, s); frac = omega arith; narrow = inl s }
number_bounded (FixedNum x) h = fixed_bounded x h

-- the size of a number with more fraction bits
pub size_shifted : (n : ℤ) (i : ℕ) → unsigned_abs n < 2 ^ 64 → i ≤ 32
    → (unsigned_abs n * 2 ^ i ≤ 2 ^ 96) × (unsigned_abs (n *ℤ pos (2 ^ i)) ≤ 2 ^ 96)
size_shifted n i h k =
    let p : unsigned_abs n * 2 ^ i ≤ 2 ^ 64 * 2 ^ 32 = mul-le (unsigned_abs n) (2 ^ i) (2 ^ 64) (2 ^ 32) (omega arith) (pow2-le i 32 k) in
    (p, rw (unsigned_abs-mul n (pos (2 ^ i))) p)

-- the higher format is one of the two
pub higher_is : (P : Format → Type 0) (x y : Format) → P x → P y → P (higher x y)
higher_is P x y p q = elim (nat_lt (rank_of x) (rank_of y)) as (λ b. P (if b then y else x)) [ true ↦ q | false ↦ p ]

-- the result format is that of an operand
pub result_format : (a b : Num) (to : Format) → IsNumber a → IsNumber b → IsResultFormat a b to
    → IsFormat to × (to.frac ≤ max (fraction_bits a) (fraction_bits b))
result_format (Whole m) (Whole n) to h k p = absurd p
result_format (Whole m) (FixedNum y) to h k p =
    subst (λ (f : Format). IsFormat f × (f.frac ≤ max 0 y.format.frac)) (sym p) (k.known, omega arith)
result_format (FixedNum x) (Whole n) to h k p =
    subst (λ (f : Format). IsFormat f × (f.frac ≤ max x.format.frac 0)) (sym p) (h.known, omega arith)
result_format (FixedNum x) (FixedNum y) to h k p =
    let P : Format → Type 0 = λ (f : Format). IsFormat f × (f.frac ≤ max x.format.frac y.format.frac) in
    subst P (sym p.1) (higher_is P x.format y.format (h.known, omega arith) (k.known, omega arith))

-- ---- numbers that the code keeps in 128 bits

pub back : (z : ℤ) → unsigned_abs z < 2 ^ 127 → to_z w128 (of_z w128 z) ≡ z
back z h = to_z-of_z (fits_signed_from_abs w128 z h)

-- a number that was handed over
pub back_as : (r z : ℤ) → r ≡ z → unsigned_abs z < 2 ^ 127 → to_z w128 (of_z w128 r) ≡ z
back_as r z e h = ap (λ (x : ℤ). to_z w128 (of_z w128 x)) e ∙ back z h

-- a shift to the left by less than 64
pub left_fits : (n : ℤ) (i : ℕ) → unsigned_abs n < 2 ^ 64 → i ≤ 63 → unsigned_abs n * 2 ^ i < 2 ^ 127
left_fits n i h k =
    let p : unsigned_abs n * 2 ^ i ≤ (2 ^ 64 - 1) * 2 ^ 63 =
    mul-le (unsigned_abs n) (2 ^ i) (2 ^ 64 - 1) (2 ^ 63) (omega arith) (pow2-le i 63 k) in
    omega arith

-- the numerator of a quotient
pub numerator_fits : (n : ℤ) (f up c : ℕ) → IsBounded n f → up ≤ 64 → c ≡ min up f → unsigned_abs n * 2 ^ (up - c) ≤ 2 ^ 97
numerator_fits n f up c b h e =
    elim b.narrow [
      | inl p ↦ (let q : unsigned_abs n * 2 ^ (up - c) ≤ 2 ^ 32 * 2 ^ 64 =
          mul-le (unsigned_abs n) (2 ^ (up - c)) (2 ^ 32) (2 ^ 64) (omega arith) (pow2-le (up - c) 64 (omega arith)) in
          omega arith)
      | inr p ↦ (let q : unsigned_abs n * 2 ^ (up - c) ≤ 2 ^ 64 * 2 ^ 33 =
          mul-le (unsigned_abs n) (2 ^ (up - c)) (2 ^ 64) (2 ^ 33) (omega (arith, b.size)) (pow2-le (up - c) 33 (omega arith)) in
          omega arith)
    ]

-- an operand of one byte
pub byte_size : (a : Num) → IsNumber a → IsOneByte a → unsigned_abs (scaled a) < 2 ^ 8
byte_size (Whole n) h k = omega (arith, ints, k.low, k.high)
byte_size (FixedNum x) h k =
    let b : HasBits x.format = format_bits x.format h.known in
    let s : unsigned_abs x.n < 2 ^ x.format.bits = within_size x.format.signed x.format.bits x.n (omega (arith, b.some)) h.in_range in
    subst (λ (n : ℕ). unsigned_abs x.n < 2 ^ n) k s

pub product_size : (x y : ℤ) → unsigned_abs x < 2 ^ 8 → unsigned_abs y < 2 ^ 8 → unsigned_abs (x *ℤ y) < 2 ^ 16
product_size x y h k = rw (unsigned_abs-mul x y) (mul-lt (unsigned_abs x) (unsigned_abs y) (2 ^ 8) (2 ^ 8) h k)

-- the denominator of a quotient
pub divisor_positive : (y : ℤ) (f : ℕ) → y ≢ pos 0 → 0 < unsigned_abs y * 2 ^ f
divisor_positive (pos zero) f h = absurd (h refl)
divisor_positive (pos (suc n)) f h = mul-lt 0 0 (suc n) (2 ^ f) (omega arith) (pow_pos f)
divisor_positive (negsuc n) f h = mul-lt 0 0 (suc n) (2 ^ f) (omega arith) (pow_pos f)

-- what a call answered
pub returned : (r z : ℤ) → mag r < 2 ^ 127 → r ≡ z → to_z w128 (of_z w128 r) ≡ z
returned r z h e = to_z-of_z (let f : FitsSigned w128 r = record { sfits = h } in f) ∙ e

unsigned_abs-parts : (z : ℤ) → unsigned_abs z ≡ up z + down z
unsigned_abs-parts (pos n) = omega arith
unsigned_abs-parts (negsuc n) = omega arith

within_half : (l r : ℤ) → unsigned_abs l ≤ 2 ^ 96 → unsigned_abs r ≤ 2 ^ 96
    → (unsigned_abs (l +ℤ r) < 2 ^ 127) × (unsigned_abs (l -ℤ r) < 2 ^ 127)
within_half l r h k = (
  omega (arith, ints, unsigned_abs-parts l, unsigned_abs-parts r, unsigned_abs-parts (l +ℤ r)),
  omega (arith, ints, unsigned_abs-parts l, unsigned_abs-parts r, unsigned_abs-parts (l -ℤ r)),
)

-- a sum and a difference of two answers
pub sum_back : (l r u v : ℤ) → unsigned_abs l ≤ 2 ^ 96 → unsigned_abs r ≤ 2 ^ 96 → l ≡ u → r ≡ v
    → to_z w128 (of_z w128 (to_z w128 (of_z w128 l) +ℤ to_z w128 (of_z w128 r))) ≡ u +ℤ v
sum_back l r u v h k d e =
    let p : to_z w128 (of_z w128 l) ≡ l = back l (omega arith) in
    let q : to_z w128 (of_z w128 r) ≡ r = back r (omega arith) in
    rw (p, q) (back (l +ℤ r) (within_half l r h k).0 ∙ ap (λ (z : ℤ). z +ℤ r) d ∙ ap (λ (z : ℤ). u +ℤ z) e)

pub difference_back : (l r u v : ℤ) → unsigned_abs l ≤ 2 ^ 96 → unsigned_abs r ≤ 2 ^ 96 → l ≡ u → r ≡ v
    → to_z w128 (of_z w128 (to_z w128 (of_z w128 l) -ℤ to_z w128 (of_z w128 r))) ≡ u -ℤ v
difference_back l r u v h k d e =
    let p : to_z w128 (of_z w128 l) ≡ l = back l (omega arith) in
    let q : to_z w128 (of_z w128 r) ≡ r = back r (omega arith) in
    rw (p, q) (back (l -ℤ r) (within_half l r h k).1 ∙ ap (λ (z : ℤ). z -ℤ r) d ∙ ap (λ (z : ℤ). u -ℤ z) e)

-- a product of two answers of one byte
pub product_back : (l r u v : ℤ) → unsigned_abs u < 2 ^ 8 → unsigned_abs v < 2 ^ 8 → l ≡ u → r ≡ v
    → to_z w128 (of_z w128 (to_z w128 (of_z w128 l) *ℤ to_z w128 (of_z w128 r))) ≡ u *ℤ v
product_back l r u v h k d e =
    let p : to_z w128 (of_z w128 l) ≡ u = back_as l u d (omega arith) in
    let q : to_z w128 (of_z w128 r) ≡ v = back_as r v e (omega arith) in
    rw (p, q) (back (u *ℤ v) (omega (arith, product_size u v h k)))

-- an answer that was shifted to the left
pub shifted_back : (s l z : ℤ) (i : ℕ) → mag s < 2 ^ 127 → unsigned_abs z < 2 ^ 64 → l ≡ z → s ≡ to_z w128 (of_z w128 l) *ℤ pos (2 ^ i)
    → to_z w128 (of_z w128 s) ≡ z *ℤ pos (2 ^ i)
shifted_back s l z i h k d e = returned s (z *ℤ pos (2 ^ i)) h (e ∙ ap (λ (x : ℤ). x *ℤ pos (2 ^ i)) (back_as l z d (omega arith)))

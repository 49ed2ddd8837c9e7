-- The product of two bytes is that of their numbers.
use Rattle.std.proofs.Common.{◌≡◌, ℕ, suc, ◌+◌, ◌-◌, ◌*◌, ◌%◌, ◌^◌, ◌<◌, ◌≤◌, ◌⊎◌, inl, inr, ⊎_elim, Bool, true, false, ◌||◌, refl, ap}
use Rattle.std.proofs.Common.{arith, pos, negsuc, neg_ℤ, ◌*ℤ◌}
use Rattle.std.proofs.lemmas.Bool.{cases_lt}
use Rattle.std.proofs.lemmas.Nat.{mul-le}
use Rattle.ec_asm.specs.Pieces.{sign_of}
use Rattle.ec_select_products.specs.Products.{product_of}
use Rattle.ec_fxcode.specs.ClampLaws.{signed_number}
use Rattle.ec_fxcode.proofs.Fits.{plus, minus}
use Rattle.ec_fxcode_shifts.specs.ShiftLaws.{number_in}
use Rattle.ec_fxcode_shifts.proofs.Right.{IsNegatedBy}
use Rattle.ec_fxcode_quotients.proofs.Signs.{IsResult, signed_result}

-- ---- a byte and its sign

record IsPlus (signed : Bool) (x : ℕ) : Type 0 where
  sign : sign_of signed x ≡ 0
  number : number_in signed 1 x ≡ pos x
  below : x < 256
  half : signed ≡ true → x < 128

-- the number is -(a + 1)
record IsMinus (signed : Bool) (x a : ℕ) : Type 0 where
  is : signed ≡ true
  sign : sign_of signed x ≡ 1
  number : number_in signed 1 x ≡ negsuc a
  whole : suc a + x ≡ 256
  half : suc a ≤ 128

byte_sign : (signed : Bool) (x : ℕ) → x < 256 → IsPlus signed x ⊎ ((a : ℕ) × IsMinus signed x a)
byte_sign false x l = inl (record { sign = refl; number = refl; below = l; half = λ e. absurd (cc) })
byte_sign true x l =
    ⊎_elim
    (λ (less : x < 128). inl (record { sign = omega arith; number = plus 1 x (omega arith); below = l; half = λ e. less }))
    (λ (more : 128 ≤ x). inr (
      256 - x - 1,
      record
          { is = refl; sign = omega arith; number = minus 1 x (omega arith) l; whole = omega arith; half = omega arith },
    ))
    (cases_lt x 128)

-- ---- the numbers that two bytes leave

-- a product of P, negated
negated : (P y t : ℕ) → 2 * P < 65536 → y < 65536 → t ≤ 1 → y + P ≡ t * 65536 → signed_number 2 y ≡ neg_ℤ (pos P)
negated P y t l b m e =
    let by : IsNegatedBy 255 (256 ^ 2) P y = record { plus_is = λ q. absurd (omega (arith, q)); minus_is = λ q. (t, m, e) } in
    let result : IsResult 255 P (neg_ℤ (pos P)) =
    record { plus_is = λ q. absurd (omega (arith, q)); minus_is = λ q. refl; either = inr refl } in
    signed_result 255 P 2 y (neg_ℤ (pos P)) l b by result

-- 131072 - P in two bytes
minus_low : (P y : ℕ) → P ≤ 32640 → y ≡ (131072 - P) % 65536 → signed_number 2 y ≡ neg_ℤ (pos P)
minus_low P y l e =
    ⊎_elim
    (λ (none : P < 1). let z : y ≡ 0 = omega (arith, e) in negated P y 0 (omega arith) (omega arith) (omega arith) (omega (arith, z)))
    (λ (some : 1 ≤ P). let z : y ≡ 65536 - P = omega (arith, e) in
    negated P y 1 (omega arith) (omega (arith, z)) (omega arith) (omega (arith, z)))
    (cases_lt P 1)

-- the magnitude of a negative byte times z
part : (A x z : ℕ) → A + x ≡ 256 → A * z + x * z ≡ 256 * z
part A x z e = let g : (A + x) * z ≡ 256 * z = ap (λ t. t * z) e in omega (arith, g)

both_plus : (left right : Bool) (x z : ℕ) → IsPlus left x → IsPlus right z
    → number_in (left || right) 2 (product_of left right x z % 256 ^ 2) ≡ number_in left 1 x *ℤ number_in right 1 z
both_plus left right x z p q =
    let lx = p.below in
    let lz = q.below in
    let most : x * z ≤ 255 * 255 = mul-le x z 255 255 (omega (arith, lx)) (omega (arith, lz)) in
    let low : (x * z + 131072 - 256 * (0 * z + 0 * x)) % 65536 % 65536 ≡ x * z = omega (arith, most) in
    rw (p.sign, q.sign, p.number, q.number, low) (by left right p q)
  where
    by : (left right : Bool) → IsPlus left x → IsPlus right z → number_in (left || right) 2 (x * z) ≡ pos (x * z)
    by false false p q = refl
    by true right p q =
        let h = p.half refl in
        let l = q.below in
        let most : x * z ≤ 127 * 255 = mul-le x z 127 255 (omega (arith, h)) (omega (arith, l)) in
        plus 2 (x * z) (omega (arith, most))
    by false true p q =
        let h = q.half refl in
        let l = p.below in
        let most : x * z ≤ 255 * 127 = mul-le x z 255 127 (omega (arith, l)) (omega (arith, h)) in
        plus 2 (x * z) (omega (arith, most))

left_minus : (left right : Bool) (x z a : ℕ) → IsMinus left x a → IsPlus right z
    → number_in (left || right) 2 (product_of left right x z % 256 ^ 2) ≡ number_in left 1 x *ℤ number_in right 1 z
left_minus left right x z a p q =
    let whole = part (suc a) x z p.whole in
    let half = p.half in
    let lz = q.below in
    let most : suc a * z ≤ 128 * 255 = mul-le (suc a) z 128 255 half (omega (arith, lz)) in
    let low : (x * z + 131072 - 256 * (1 * z + 0 * x)) % 65536 % 65536 ≡ (131072 - suc a * z) % 65536 = omega (arith, whole, most) in
    rw (p.sign, q.sign, p.number, q.number, low, p.is) (minus_low (suc a * z) ((131072 - suc a * z) % 65536) (omega (arith, most)) refl)

right_minus : (left right : Bool) (x z b : ℕ) → IsPlus left x → IsMinus right z b
    → number_in (left || right) 2 (product_of left right x z % 256 ^ 2) ≡ number_in left 1 x *ℤ number_in right 1 z
right_minus left right x z b p q =
    let whole = part (suc b) z x q.whole in
    let half = q.half in
    let lx = p.below in
    let most : x * suc b ≤ 255 * 128 = mul-le x (suc b) 255 128 (omega (arith, lx)) half in
    let low : (x * z + 131072 - 256 * (0 * z + 1 * x)) % 65536 % 65536 ≡ (131072 - x * suc b) % 65536 = omega (arith, whole, most) in
    rw (p.sign, q.sign, p.number, q.number, low, q.is) (by left (x * suc b) (omega (arith, most)))
  where
    by : (left : Bool) (P : ℕ) → P ≤ 32640 → number_in (left || true) 2 ((131072 - P) % 65536) ≡ neg_ℤ (pos P)
    by true P l = minus_low P ((131072 - P) % 65536) l refl
    by false P l = minus_low P ((131072 - P) % 65536) l refl

both_minus : (left right : Bool) (x z a b : ℕ) → IsMinus left x a → IsMinus right z b
    → number_in (left || right) 2 (product_of left right x z % 256 ^ 2) ≡ number_in left 1 x *ℤ number_in right 1 z
both_minus left right x z a b p q =
    let one = part (suc a) x z p.whole in
    let two = part (suc b) z (suc a) q.whole in
    let wp = p.whole in
    let most : suc a * suc b ≤ 128 * 128 = mul-le (suc a) (suc b) 128 128 p.half q.half in
    let low : (x * z + 131072 - 256 * (1 * z + 1 * x)) % 65536 % 65536 ≡ suc a * suc b = omega (arith, one, two, wp, most) in
    rw (p.sign, q.sign, p.number, q.number, low, p.is) (plus 2 (suc a * suc b) (omega (arith, most)))

pub product_number : (left right : Bool) (x z : ℕ) → x < 256 → z < 256
    → number_in (left || right) 2 (product_of left right x z % 256 ^ 2) ≡ number_in left 1 x *ℤ number_in right 1 z
product_number left right x z l m = by (byte_sign left x l) (byte_sign right z m)
  where
    by : IsPlus left x ⊎ ((a : ℕ) × IsMinus left x a) → IsPlus right z ⊎ ((a : ℕ) × IsMinus right z a)
        → number_in (left || right) 2 (product_of left right x z % 256 ^ 2) ≡ number_in left 1 x *ℤ number_in right 1 z
    by (inl p) (inl q) = both_plus left right x z p q
    by (inl p) (inr q) = right_minus left right x z q.0 p q.1
    by (inr p) (inl q) = left_minus left right x z p.0 p.1 q
    by (inr p) (inr q) = both_minus left right x z p.0 q.0 p.1 q.1

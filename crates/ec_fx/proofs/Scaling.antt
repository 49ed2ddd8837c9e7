-- Powers of two that numerator and denominator have in common.
use Rattle.std.proofs.Common.{◌≡◌, ℕ, zero, suc, ◌+◌, ◌-◌, ◌*◌, ◌/◌, ◌^◌, ◌<◌, ◌≤◌, Bool, true, false, refl, sym, ◌∙◌, ap, arith, ℤ, pos}
use Rattle.std.proofs.Common.{negsuc, neg_ℤ, ◌+ℤ◌, ◌-ℤ◌, ◌*ℤ◌, unsigned_abs, max, int_lt, if◌then◌else◌}
use Rattle.std.proofs.Math.Nat.{mul_assoc, mul-div-mul_right}
use borrow.Author.Differences.{up, down, same_in, sum_is_lem, neg_is}
use Rattle.std.proofs.lemmas.Int.{ints, unsigned_abs-mul}
use Rattle.std.proofs.lemmas.Nat.{pow_pos, pow-add, mul-lt}
use native.Mathlib.Nat.{zero-div}
use Rattle.std.proofs.Math.IntN.{neg_ℤ-neg_ℤ}
use Rattle.ec_fx.specs.Arithmetic.{turned}
use Rattle.ec_fx.specs.Rounding.{trunc, rounded, in_units}

-- the two parts of a multiple
scale_parts : (z : ℤ) (k : ℕ) → (up (z *ℤ pos k) ≡ up z * k) × (down (z *ℤ pos k) ≡ down z * k)
scale_parts (pos n) k = (refl, omega arith)
scale_parts (negsuc n) k = ((neg_is (pos (suc n * k))).0 ∙ omega arith, (neg_is (pos (suc n * k))).1)

pub scale_negated : (m k : ℕ) → neg_ℤ (pos m) *ℤ pos k ≡ neg_ℤ (pos (m * k))
scale_negated zero k = let e : 0 * k ≡ 0 = omega arith in rw e refl
scale_negated (suc m) k = refl

trunc_negated : (m q : ℕ) → trunc (neg_ℤ (pos m)) q ≡ neg_ℤ (pos (m / q))
trunc_negated zero q = rw (zero-div q) refl
trunc_negated (suc m) q = refl

-- a factor that numerator and denominator have in common
pub trunc-common : (z : ℤ) (q k : ℕ) → 0 < k → trunc (z *ℤ pos k) (q * k) ≡ trunc z q
trunc-common (pos n) q k h = ap pos (mul-div-mul_right n q h)
trunc-common (negsuc n) q k h = trunc_negated (suc n * k) (q * k) ∙ ap (λ (m : ℕ). neg_ℤ (pos m)) (mul-div-mul_right (suc n) q h)

pub scale_twice : (z : ℤ) (i j : ℕ) → z *ℤ pos (i * j) ≡ z *ℤ pos i *ℤ pos j
scale_twice (pos n) i j = ap pos (sym (mul_assoc n i j))
scale_twice (negsuc n) i j = ap (λ (m : ℕ). neg_ℤ (pos m)) (sym (mul_assoc (suc n) i j)) ∙ sym (scale_negated (suc n * i) j)

pub scale_sum : (x y : ℤ) (k : ℕ) → (x +ℤ y) *ℤ pos k ≡ x *ℤ pos k +ℤ y *ℤ pos k
scale_sum x y k =
    let e = ap (λ (n : ℕ). n * k) (sum_is_lem x y) in
    same_in _ _ (omega (arith, e, scale_parts (x +ℤ y) k, scale_parts x k, scale_parts y k, sum_is_lem (x *ℤ pos k) (y *ℤ pos k)))

pub scale_negative : (x : ℤ) (k : ℕ) → neg_ℤ x *ℤ pos k ≡ neg_ℤ (x *ℤ pos k)
scale_negative (pos n) k = scale_negated n k
scale_negative (negsuc n) k = sym (neg_ℤ-neg_ℤ (pos (suc n * k)))

-- two shifts are one
pub scale_pow : (z : ℤ) (i j k : ℕ) → i + j ≡ k → z *ℤ pos (2 ^ i) *ℤ pos (2 ^ j) ≡ z *ℤ pos (2 ^ k)
scale_pow z i j k e = sym (scale_twice z (2 ^ i) (2 ^ j)) ∙ ap (λ (n : ℕ). z *ℤ pos n) (sym (pow-add 2 i j) ∙ ap (λ (n : ℕ). 2 ^ n) e)

-- both operands are brought to m fraction bits, as many as the one with more has
pub sum_aligned : (x y : ℤ) (f g r m : ℕ) → m ≡ max f g → r ≤ m → trunc (x *ℤ pos (2 ^ (m - f)) +ℤ y *ℤ pos (2 ^ (m - g))) (2 ^ (m - r))
    ≡ rounded (in_units (x *ℤ pos (2 ^ g) +ℤ y *ℤ pos (2 ^ f)) (f + g) r)
sum_aligned x y f g r m e h =
    let d : ℕ = f + g - m in
    let u : ℤ = x *ℤ pos (2 ^ (m - f)) in
    let v : ℤ = y *ℤ pos (2 ^ (m - g)) in
    let den : 2 ^ (m - r) * 2 ^ (d + r) ≡ 2 ^ (f + g) = sym (pow-add 2 (m - r) (d + r)) ∙ ap (λ (n : ℕ). 2 ^ n) (omega arith) in
    let left : u *ℤ pos (2 ^ d) ≡ x *ℤ pos (2 ^ g) = scale_pow x (m - f) d g (omega arith) in
    let right : v *ℤ pos (2 ^ d) ≡ y *ℤ pos (2 ^ f) = scale_pow y (m - g) d f (omega arith) in
    let both : (u +ℤ v) *ℤ pos (2 ^ d) ≡ x *ℤ pos (2 ^ g) +ℤ y *ℤ pos (2 ^ f) =
    scale_sum u v (2 ^ d) ∙ ap (λ (z : ℤ). z +ℤ v *ℤ pos (2 ^ d)) left ∙ ap (λ (z : ℤ). x *ℤ pos (2 ^ g) +ℤ z) right in
    let num : (u +ℤ v) *ℤ pos (2 ^ (d + r)) ≡ (x *ℤ pos (2 ^ g) +ℤ y *ℤ pos (2 ^ f)) *ℤ pos (2 ^ r) =
    sym (scale_pow (u +ℤ v) d r (d + r) refl) ∙ ap (λ (z : ℤ). z *ℤ pos (2 ^ r)) both in
    sym (trunc-common (u +ℤ v) (2 ^ (m - r)) (2 ^ (d + r)) (pow_pos (d + r))) ∙ ap (λ (z : ℤ). trunc z (2 ^ (m - r) * 2 ^ (d + r))) num
    ∙ ap (λ (n : ℕ). trunc ((x *ℤ pos (2 ^ g) +ℤ y *ℤ pos (2 ^ f)) *ℤ pos (2 ^ r)) n) den

pub difference_aligned : (x y : ℤ) (f g r m : ℕ) → m ≡ max f g → r ≤ m → trunc (x *ℤ pos (2 ^ (m - f)) -ℤ y *ℤ pos (2 ^ (m - g)))
    (2 ^ (m - r)) ≡ rounded (in_units (x *ℤ pos (2 ^ g) -ℤ y *ℤ pos (2 ^ f)) (f + g) r)
difference_aligned x y f g r m e h =
    ap (λ (z : ℤ). trunc (x *ℤ pos (2 ^ (m - f)) +ℤ z) (2 ^ (m - r))) (sym (scale_negative y (2 ^ (m - g))))
    ∙ sum_aligned x (neg_ℤ y) f g r m e h
    ∙ ap (λ (z : ℤ). rounded (in_units (x *ℤ pos (2 ^ g) +ℤ z) (f + g) r)) (scale_negative y (2 ^ f))

-- a multiple has the number's sign
negative_below : (m : ℕ) → 0 < m → int_lt (neg_ℤ (pos m)) (pos 0) ≡ true
negative_below zero h = absurd (omega arith)
negative_below (suc m) h = refl

not_below : (m : ℕ) → int_lt (pos m) (pos 0) ≡ false
not_below m = grind (arith, ints)

scale_sign : (y : ℤ) (k : ℕ) → 0 < k → int_lt (y *ℤ pos k) (pos 0) ≡ int_lt y (pos 0)
scale_sign (pos n) k h = not_below (n * k) ∙ sym (not_below n)
scale_sign (negsuc n) k h = negative_below (suc n * k) (mul-lt 0 0 (suc n) k (omega arith) h)

turned_by : (b : Bool) (z : ℤ) (k : ℕ) → (if b then neg_ℤ z else z) *ℤ pos k ≡ (if b then neg_ℤ (z *ℤ pos k) else z *ℤ pos k)
turned_by true z k = scale_negative z k
turned_by false z k = refl

turned_scaled : (y z : ℤ) (k : ℕ) → turned y z *ℤ pos k ≡ turned y (z *ℤ pos k)
turned_scaled y z k = turned_by (int_lt y (pos 0)) z k

-- numerator and denominator without 2^c
pub quotient_reduced : (x y : ℤ) (up down c : ℕ) → c ≤ up → c ≤ down → trunc (turned (y *ℤ pos (2 ^ (down - c))) (x *ℤ pos (2 ^ (up - c))))
    (unsigned_abs (y *ℤ pos (2 ^ (down - c)))) ≡ trunc (turned y (x *ℤ pos (2 ^ up))) (unsigned_abs y * 2 ^ down)
quotient_reduced x y up down c h k =
    let j : ℕ = 2 ^ (down - c) in
    let n : ℤ = x *ℤ pos (2 ^ (up - c)) in
    let den : unsigned_abs y * j * 2 ^ c ≡ unsigned_abs y * 2 ^ down = mul_assoc (unsigned_abs y) j (2 ^ c)
    ∙ ap (λ (m : ℕ). unsigned_abs y * m) (sym (pow-add 2 (down - c) c) ∙ ap (λ (m : ℕ). 2 ^ m) (omega arith)) in
    let num : turned y n *ℤ pos (2 ^ c) ≡ turned y (x *ℤ pos (2 ^ up)) =
    turned_scaled y n (2 ^ c) ∙ ap (turned y) (scale_pow x (up - c) c up (omega arith)) in
    ap (λ (b : Bool). trunc (if b then neg_ℤ n else n) (unsigned_abs (y *ℤ pos j))) (scale_sign y j (pow_pos (down - c)))
    ∙ ap (trunc (turned y n)) (unsigned_abs-mul y (pos j))
    ∙ sym (trunc-common (turned y n) (unsigned_abs y * j) (2 ^ c) (pow_pos c))
    ∙ ap (λ (z : ℤ). trunc z (unsigned_abs y * j * 2 ^ c)) num
    ∙ ap (trunc (turned y (x *ℤ pos (2 ^ up)))) den

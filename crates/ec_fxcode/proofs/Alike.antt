-- Numbers whose bytes are all 0 or all 255, the two parts of a number, and its highest bit.
use Rattle.std.proofs.Common.{◌≡◌, ℕ, zero, suc, ◌+◌, ◌*◌, ◌/◌, ◌^◌, ◌<◌, ◌≤◌, ⊎_elim, refl, arith, pow-add}
use Rattle.std.proofs.lemmas.Bool.{cases_eq, cases_lt}
use Rattle.std.proofs.lemmas.Nat.{mul-le}
use native.Mathlib.Nat.{pow-suc}
use Rattle.ec_asm.specs.Pieces.{value}
use Rattle.ec_asm.specs.PieceLaws.{AreHeld}
use Rattle.ec_asm.proofs.Numbers.{pow_pos, value_below}

pub value_parts : (f : ℕ → ℕ) (a k m : ℕ) → value f a (k + m) ≡ value f a k + 256 ^ k * value f (a + k) m
value_parts f a k zero = let e : k + 0 ≡ k = omega arith in rw e (omega arith)
value_parts f a k (suc m) =
    let e : k + suc m ≡ suc (k + m) = omega arith in
    let h = value_parts f a k m in
    let q : a + (k + m) ≡ a + k + m = omega arith in
    let p : 256 ^ (k + m) ≡ 256 ^ k * 256 ^ m = pow-add 256 k m in
    rw (e, h, q, p) (omega arith)

-- ---- bytes that are all alike

pub zeros : (f : ℕ → ℕ) (a m : ℕ) → ((j : ℕ) → j < m → f (a + j) ≡ 0) → value f a m ≡ 0
zeros f a zero h = refl
zeros f a (suc m) h =
    let v = zeros f a m (λ j l. h j (omega arith)) in
    let x = h m (omega arith) in
    rw (v, x) (omega arith)

pub ones : (f : ℕ → ℕ) (a m : ℕ) → ((j : ℕ) → j < m → f (a + j) ≡ 255) → value f a m + 1 ≡ 256 ^ m
ones f a zero h = refl
ones f a (suc m) h =
    let v = ones f a m (λ j l. h j (omega arith)) in
    let x = h m (omega arith) in
    rw (x, pow-suc) (omega arith)

zero_product : (x p : ℕ) → 0 < p → x * p ≡ 0 → x ≡ 0
zero_product x p l e =
    ⊎_elim (λ same. same)
    (λ other. let q : 1 * p ≤ x * p = mul-le 1 p x p (omega arith) (omega arith) in absurd (omega arith))
    (cases_eq x 0)

pub zeros_only : (f : ℕ → ℕ) (a m : ℕ) → value f a m ≡ 0 → (j : ℕ) → j < m → f (a + j) ≡ 0
zeros_only f a zero e j l = absurd (omega arith)
zeros_only f a (suc m) e j l =
    let p = pow_pos m in
    let x = zero_product (f (a + m)) (256 ^ m) p (omega arith) in
    ⊎_elim (λ same. rw same x) (λ other. zeros_only f a m (omega arith) j (omega arith)) (cases_eq j m)

full_byte : (v x p : ℕ) → v < p → x < 256 → v + x * p + 1 ≡ p * 256 → x ≡ 255
full_byte v x p l m e =
    ⊎_elim
    (λ less. let q : x * p ≤ 254 * p = mul-le x p 254 p (omega arith) (omega arith) in absurd (omega arith))
    (λ more. omega arith) (cases_lt x 255)

pub ones_only : (f : ℕ → ℕ) (a m : ℕ) → AreHeld f a m → value f a m + 1 ≡ 256 ^ m → (j : ℕ) → j < m
    → f (a + j) ≡ 255
ones_only f a zero h e j l = absurd (omega arith)
ones_only f a (suc m) h e j l =
    let low = value_below f a m (λ i k. h i (omega arith)) in
    let whole = rw pow-suc at e in
    let x = full_byte (value f a m) (f (a + m)) (256 ^ m) low (h m (omega arith)) whole in
    let rest : value f a m + 255 * 256 ^ m + 1 ≡ 256 ^ m * 256 = rw x at whole in
    ⊎_elim (λ same. rw same x) (λ other. ones_only f a m (λ i k. h i (omega arith)) (omega arith) j (omega arith))
    (cases_eq j m)

-- ---- the highest bit

pub low_top : (f : ℕ → ℕ) (a m : ℕ) → AreHeld f a m → f (a + m) < 128 → 2 * value f a (suc m) < 256 ^ suc m
low_top f a m h l =
    let low = value_below f a m h in
    let q : f (a + m) * 256 ^ m ≤ 127 * 256 ^ m = mul-le (f (a + m)) (256 ^ m) 127 (256 ^ m) (omega arith) (omega arith) in
    rw pow-suc (omega arith)

pub high_top : (f : ℕ → ℕ) (a m : ℕ) → 128 ≤ f (a + m) → 256 ^ suc m ≤ 2 * value f a (suc m)
high_top f a m l =
    let q : 128 * 256 ^ m ≤ f (a + m) * 256 ^ m = mul-le 128 (256 ^ m) (f (a + m)) (256 ^ m) (omega arith) (omega arith) in
    rw pow-suc (omega arith)

-- the byte that extends a number whose highest byte is x
abbrev pub fill : ℕ → ℕ
fill x = 255 * (x / 128)

pub fill_low : (x : ℕ) → x < 128 → fill x ≡ 0
fill_low x l = omega arith

pub fill_high : (x : ℕ) → 128 ≤ x → x < 256 → fill x ≡ 255
fill_high x l m = let q : x / 128 ≡ 1 = omega arith in rw q refl

pub power_more : (n : ℕ) → 256 ^ suc n ≡ 256 ^ n * 256
power_more n = pow-suc 256 n

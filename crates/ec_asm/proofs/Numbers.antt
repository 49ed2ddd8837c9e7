-- Numbers in bytes, and their low parts.
use Rattle.std.proofs.Common.{◌≡◌, ℕ, zero, suc, ◌+◌, ◌-◌, ◌*◌, ◌/◌, ◌%◌, ◌^◌, ◌<◌, ◌≤◌, ⊎_elim, refl, sym, ap, ◌∙◌, arith, pow-add}
use Rattle.std.proofs.lemmas.Bool.{cases_lt}
use Rattle.std.proofs.lemmas.Nat.{div-add-mod', mod_below, mod-mul-add, div-mul-add, mul-le}
use native.Mathlib.Nat.{pow-suc}
use Rattle.ec_asm.specs.Pieces.{value}

pub pow_pos : (n : ℕ) → 0 < 256 ^ n
pow_pos zero = omega arith
pow_pos (suc n) = let h = pow_pos n in rw pow-suc (omega arith)

rest_below : (v r p : ℕ) → v < p → r < 256 → v + r * p < p * 256
rest_below v r p h k = let q : (r + 1) * p ≤ 256 * p = mul-le (r + 1) p 256 p (omega arith) (omega arith) in omega arith

pub value_below : (f : ℕ → ℕ) (a n : ℕ) → ((j : ℕ) → j < n → f (a + j) < 256) → value f a n < 256 ^ n
value_below f a zero h = omega arith
value_below f a (suc n) h =
    rw (pow-suc) (rest_below (value f a n) (f (a + n)) (256 ^ n) (value_below f a n (λ j l. h j (omega arith))) (h n (omega arith)))

-- a multiple of m beside x does not matter modulo m
pub mod_beside : (q m x : ℕ) → 0 < m → (q * m + x) % m ≡ x % m
mod_beside q m x h =
    let d = div-add-mod' x m in
    let e : q * m + x ≡ (q + x / m) * m + x % m = omega (arith, d) in
    ap (λ t. t % m) e ∙ mod-mul-add (q + x / m) m (x % m) (mod_below x m h)

split : (m n : ℕ) → m ≤ n → 256 ^ n ≡ 256 ^ (n - m) * 256 ^ m
split m n l = let e : n ≡ (n - m) + m = omega arith in ap (λ k. 256 ^ k) e ∙ pow-add 256 (n - m) m

-- the low part of a low part
pub mod_less : (x m n : ℕ) → m ≤ n → x % 256 ^ n % 256 ^ m ≡ x % 256 ^ m
mod_less x m n l =
    let p = 256 ^ m in
    let k = 256 ^ (n - m) in
    let s = split m n l in
    let d = div-add-mod' x (256 ^ n) in
    let e : x ≡ (x / 256 ^ n * k) * p + x % 256 ^ n =
    (let g : x / 256 ^ n * 256 ^ n ≡ x / 256 ^ n * (k * p) = ap (λ t. x / 256 ^ n * t) s in omega (arith, d)) in
    sym (ap (λ t. t % p) e ∙ mod_beside (x / 256 ^ n * k) p (x % 256 ^ n) (pow_pos m))

small : (x m : ℕ) → x < m → x % m ≡ x
small x m h = let e : x ≡ 0 * m + x = omega arith in ap (λ t. t % m) e ∙ mod-mul-add 0 m x h

-- the low m bytes of n bytes
pub value_mod : (f : ℕ → ℕ) (a m n : ℕ) → m ≤ n → ((j : ℕ) → j < n → f (a + j) < 256)
    → value f a n % 256 ^ m ≡ value f a m
value_mod f a m zero l h = let e : m ≡ 0 = omega arith in rw e refl
value_mod f a m (suc n) l h =
    ⊎_elim
    (λ k.
    let s = split m n (omega arith) in
    let g : f (a + n) * 256 ^ n ≡ f (a + n) * (256 ^ (n - m) * 256 ^ m) = ap (λ t. f (a + n) * t) s in
    let e : value f a n + f (a + n) * 256 ^ n ≡ f (a + n) * 256 ^ (n - m) * 256 ^ m + value f a n = omega arith in
    ap (λ t. t % 256 ^ m) e ∙ mod_beside (f (a + n) * 256 ^ (n - m)) (256 ^ m) (value f a n) (pow_pos m)
    ∙ value_mod f a m n (omega arith) (λ j q. h j (omega arith)))
    (λ k.
    let e : m ≡ suc n = omega arith in
    let b = value_below f a (suc n) h in
    let z : value f a (suc n) % 256 ^ suc n ≡ value f a (suc n) = small (value f a (suc n)) (256 ^ suc n) b in
    rw e z)
    (cases_lt m (suc n))

-- a sum of low parts
pub mod_sum : (x y m : ℕ) → 0 < m → (x % m + y % m) % m ≡ (x + y) % m
mod_sum x y m h =
    let d = div-add-mod' x m in
    let c = div-add-mod' y m in
    let e : x + y ≡ (x / m + y / m) * m + (x % m + y % m) = omega (arith, d, c) in
    sym (ap (λ t. t % m) e ∙ mod_beside (x / m + y / m) m (x % m + y % m) h)

-- one byte of a number
pub value_digit : (f : ℕ → ℕ) (a n i : ℕ) → ((j : ℕ) → j < n → f (a + j) < 256) → i < n
    → value f a n / 256 ^ i % 256 ≡ f (a + i)
value_digit f a n i h l =
    let p = 256 ^ i in
    let low = value_below f a i (λ j q. h j (omega arith)) in
    let two : value f a n % 256 ^ suc i ≡ value f a i + f (a + i) * p = value_mod f a (suc i) n (omega arith) h in
    let d = div-add-mod' (value f a n) (256 ^ suc i) in
    let q = value f a n / 256 ^ suc i in
    let g : q * 256 ^ suc i ≡ q * (p * 256) = ap (λ t. q * t) (pow-suc 256 i) in
    let e : value f a n ≡ (f (a + i) + 256 * q) * p + value f a i = omega (arith, d, two) in
    let b = h i l in
    let z : value f a n / p ≡ f (a + i) + 256 * q = ap (λ t. t / p) e ∙ div-mul-add (f (a + i) + 256 * q) p (value f a i) low in
    rw z (omega arith)

-- the lowest byte, and the number above it
pub value_front : (f : ℕ → ℕ) (a n : ℕ) → value f a (suc n) ≡ f a + 256 * value f (a + 1) n
value_front f a zero = let e : a + 0 ≡ a = omega arith in rw e (omega arith)
value_front f a (suc n) =
    let h = value_front f a n in
    let e : a + suc n ≡ a + 1 + n = omega arith in
    let p : 256 ^ suc n ≡ 256 ^ n * 256 = pow-suc 256 n in
    rw (h, e, p) (omega arith)

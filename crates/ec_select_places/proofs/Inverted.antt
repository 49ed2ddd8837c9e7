-- The odd part of a number, and its inverse modulo 65,536.
use Rattle.std.proofs.Common.{◌≡◌, ◌≢◌, ℕ, zero, suc, ◌^◌, ◌+◌, ◌*◌, ◌/◌, ◌%◌, ◌<◌, ◌≤◌, ⊎_elim}
use Rattle.std.proofs.Common.{refl, sym, ap, ◌∙◌, arith}
use Rattle.std.proofs.lemmas.Bool.{cases_eq, eq-eqb, ne_eqb}
use Rattle.std.proofs.lemmas.Nat.{pow_pos}
use Rattle.std.proofs.Math.Nat.{mul-div_cancel}
use native.Mathlib.Nat.{pow-suc}
use Rattle.ec_select_places.specs.Distances.{twos_within, twos_of, odd_of, refined, inverse_of}

-- ---- Newton's step

-- the square of an odd number is one above a multiple of 8
squared : (n : ℕ) → n % 2 ≡ 1 → n * n % 8 ≡ 1
squared n h =
    let j = n / 4 in
    ⊎_elim
    (λ (q : n % 4 ≡ 1). low n j (omega (arith, q)))
    (λ (q : n % 4 ≢ 1). high n j (omega (arith, q, h)))
    (cases_eq (n % 4) 1)
  where
    low : (n j : ℕ) → n ≡ 4 * j + 1 → n * n % 8 ≡ 1
    low n j e =
        let t : (4 * j + 1) * (4 * j + 1) ≡ 8 * (2 * (j * j) + j) + 1 = omega arith in
        rw (e, t) (omega arith)

    high : (n j : ℕ) → n ≡ 4 * j + 3 → n * n % 8 ≡ 1
    high n j e =
        let t : (4 * j + 3) * (4 * j + 3) ≡ 8 * (2 * (j * j) + 3 * j + 1) + 1 = omega arith in
        rw (e, t) (omega arith)

-- y * (2 - y) is one less the square of y - 1
step_is : (y t p : ℕ) → y ≡ 1 + p * t → y * (2 + 65535 * y) + p * p * (t * t) ≡ 1 + 65536 * (y * y)
step_is y t p h = rw h (omega arith)

-- the product with what the step gives
product_is : (n x : ℕ)
    → n * refined n x + 65536 * (n * (x * (2 + 65535 * (n * x)) / 65536)) ≡ n * x * (2 + 65535 * (n * x))
product_is n x =
    let y = x * (2 + 65535 * (n * x)) in
    let s : y % 65536 + 65536 * (y / 65536) ≡ y = omega arith in
    let m : n * (y % 65536 + 65536 * (y / 65536)) ≡ n * y = ap (λ i. n * i) s in
    let l : n * (y % 65536 + 65536 * (y / 65536)) ≡ n * (y % 65536) + 65536 * (n * (y / 65536)) = omega arith in
    let r : n * y ≡ n * x * (2 + 65535 * (n * x)) = omega arith in
    sym l ∙ (m ∙ r)

-- from p to its square
gains : (n x t p : ℕ) → n * x ≡ 1 + p * t
    → n * refined n x + (65536 * (n * (x * (2 + 65535 * (n * x)) / 65536)) + p * p * (t * t)) ≡ 1 + 65536 * (n * x * (n * x))
gains n x t p h = let a = product_is n x in let b = step_is (n * x) t p h in omega (arith, a, b)

pub inverted : (n : ℕ) → n % 2 ≡ 1 → n * inverse_of n % 65536 ≡ 1
inverted n h =
    let x = refined n n in
    let y = refined n x in
    let s = squared n h in
    let g = gains n n (n * n / 8) 8 (omega (arith, s)) in
    let six : n * x % 64 ≡ 1 = to_six (n * x) _ _ _ g in
    let i = gains n x (n * x / 64) 64 (omega (arith, six)) in
    let twelve : n * y % 4096 ≡ 1 = to_twelve (n * y) _ _ _ i in
    let j = gains n y (n * y / 4096) 4096 (omega (arith, twelve)) in
    to_sixteen (n * refined n y) _ _ _ j
  where
    to_six : (r a t b : ℕ) → r + (65536 * a + 64 * t) ≡ 1 + 65536 * b → r % 64 ≡ 1
    to_six r a t b h = omega (arith, h)

    to_twelve : (r a t b : ℕ) → r + (65536 * a + 4096 * t) ≡ 1 + 65536 * b → r % 4096 ≡ 1
    to_twelve r a t b h = omega (arith, h)

    to_sixteen : (r a t b : ℕ) → r + (65536 * a + 16777216 * t) ≡ 1 + 65536 * b → r % 65536 ≡ 1
    to_sixteen r a t b h = omega (arith, h)

pub inverse_below : (n : ℕ) → inverse_of n < 65536
inverse_below n = let x = refined n (refined n n) in below (x * (2 + 65535 * (n * x)))
  where
    below : (y : ℕ) → y % 65536 < 65536
    below y = omega arith

-- ---- the odd part

-- a number is an odd one times a power of two
pub record Parted (size twos : ℕ) : Type 0 where
  pub odd : ℕ
  pub is_odd : odd % 2 ≡ 1
  pub product : odd * 2 ^ twos ≡ size

pub parted : (n s : ℕ) → 1 ≤ s → s < 2 ^ suc n → Parted s (twos_within n s)
parted zero s some l = record { odd = s; is_odd = omega (arith, some, l); product = omega arith }
parted (suc n) s some l =
    ⊎_elim
    (λ (q : s % 2 ≡ 0).
    let p = pow-suc 2 (suc n) in
    let h = parted n (s / 2) (omega (arith, some, q)) (omega (arith, l, p)) in
    let o = h.odd in
    let r = h.product in
    let t = twos_within n (s / 2) in
    let double : o * (2 ^ t * 2) ≡ o * 2 ^ t * 2 = omega arith in
    let product : o * 2 ^ suc t ≡ s = rw (pow-suc 2 t, double, r) (omega (arith, q)) in
    rw (eq-eqb (s % 2) 0 q) (record { odd = o; is_odd = h.is_odd; product = product }))
    (λ (q : s % 2 ≢ 0). rw (ne_eqb (s % 2) 0 q) (record { odd = s; is_odd = omega (arith, q); product = omega arith }))
    (cases_eq (s % 2) 0)

odd_is : (o t s : ℕ) → o * 2 ^ t ≡ s → s / 2 ^ t ≡ o
odd_is o t s h = rw (sym h) (mul-div_cancel o (pow_pos t))

-- and in one way alone
same_twos : (n o t s : ℕ) → o % 2 ≡ 1 → o * 2 ^ t ≡ s → s < 2 ^ suc n → t ≡ twos_within n s
same_twos zero o zero s odd h l = refl
same_twos (suc n) o zero s odd h l =
    let q : s % 2 ≢ 0 = omega (arith, odd, h) in
    rw (ne_eqb (s % 2) 0 q) refl
same_twos n zero (suc t) s odd h l = absurd (omega (arith, odd))
same_twos zero (suc o) (suc t) s odd h l =
    let p = pow-suc 2 t in
    let q = pow_pos t in
    let double : suc o * (2 ^ t * 2) ≡ 2 * 2 ^ t + 2 * (o * 2 ^ t) = omega arith in
    let r : suc o * (2 ^ t * 2) ≡ s = ap (λ i. suc o * i) (sym p) ∙ h in
    absurd (omega (arith, double, r, q, l))
same_twos (suc n) (suc o) (suc t) s odd h l =
    let m = suc o * 2 ^ t in
    let p = pow-suc 2 t in
    let double : suc o * (2 ^ t * 2) ≡ 2 * m = omega arith in
    let r : 2 * m ≡ s = sym double ∙ (ap (λ i. suc o * i) (sym p) ∙ h) in
    let e : s % 2 ≡ 0 = omega (arith, r) in
    let half : m ≡ s / 2 = omega (arith, r) in
    let g = pow-suc 2 (suc n) in
    rw (eq-eqb (s % 2) 0 e) (ap (λ i. suc i) (same_twos n (suc o) t (s / 2) odd half (omega (arith, l, g))))

pub twos_are : (o t s : ℕ) → o % 2 ≡ 1 → o * 2 ^ t ≡ s → s < 65536 → t ≡ twos_of s
twos_are o t s odd h l = same_twos 15 o t s odd h (omega (arith, l))

pub odd_part_is : (o t s : ℕ) → o % 2 ≡ 1 → o * 2 ^ t ≡ s → s < 65536 → o ≡ odd_of s
odd_part_is o t s odd h l = sym (odd_is o t s h) ∙ ap (λ i. s / 2 ^ i) (twos_are o t s odd h l)

pub doubled : (o n s : ℕ) → o * 2 ^ n ≡ s / 2 → s % 2 ≢ 1 → o * 2 ^ (n + 1) ≡ s
doubled o n s h even =
    let next : n + 1 ≡ suc n = omega arith in
    rw (next, pow-suc 2 n) (omega (arith, h, even))

-- ---- a size that is divided by

pub at_most : (n s : ℕ) → twos_within n s ≤ n
at_most zero s = omega arith
at_most (suc n) s =
    ⊎_elim
    (λ (q : s % 2 ≡ 0). let h = at_most n (s / 2) in rw (eq-eqb (s % 2) 0 q) (omega (arith, h)))
    (λ (q : s % 2 ≢ 0). rw (ne_eqb (s % 2) 0 q) (omega arith))
    (cases_eq (s % 2) 0)

pub of_size : (s : ℕ) → 1 ≤ s → s < 65536 → (odd_of s % 2 ≡ 1) × (odd_of s * 2 ^ twos_of s ≡ s)
of_size s some l =
    let h = parted 15 s some (omega (arith, l)) in
    let o : odd_of s ≡ h.odd = odd_is h.odd (twos_of s) s h.product in
    (rw o h.is_odd, rw o h.product)

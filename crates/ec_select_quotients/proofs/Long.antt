-- Long division by numbers.
use Rattle.std.proofs.Common.{◌≡◌, ℕ, zero, suc, ◌+◌, ◌*◌, ◌/◌, ◌%◌, ◌^◌, ◌<◌, ◌≤◌, ⊎_elim, refl, sym, ap, ◌∙◌, arith, pow-add}
use Rattle.std.proofs.lemmas.Bool.{cases_lt}
use Rattle.std.proofs.lemmas.Nat.{mod-mul-add, div-mul-add, mul-le}
use native.Mathlib.Nat.{pow-suc}

-- After i bits of x, which is below p, of the division by d: the remainder, and the other bits of x with those of the
-- quotient below them
pub record Long (x d p rest number i : ℕ) : Type 0 where
  pub quotient : ℕ
  pub below : quotient < 2 ^ i
  pub whole : rest * p + number + quotient * (d * p) ≡ x * 2 ^ i + quotient
  pub less : rest < d

pub begun : (x d p rest : ℕ) → 1 ≤ d → rest ≡ 0 → Long x d p rest x 0
begun x d p rest some q =
    record { quotient = 0; below = omega arith; whole = rw q (omega arith); less = omega arith }

-- one bit more, where y is x * 2 ^ i and k is d * p
twice : (a c f number number2 q k y : ℕ) → a ≡ 2 * c + f → number2 + f ≡ number + number → c + number + q * k ≡ y + q
    → a + number2 + 2 * q * k ≡ y * 2 + 2 * q
twice a c f number number2 q k y e g w = omega (arith, e, g, w)

pub not_taken : (x d p rest number i b rest2 number2 : ℕ) → Long x d p rest number i → number2 + b * p ≡ number + number
    → rest2 ≡ 2 * rest + b → rest2 < d → Long x d p rest2 number2 (suc i)
not_taken x d p rest number i b rest2 number2 h t r l =
    let q = h.quotient in
    let below = h.below in
    let s : 2 ^ suc i ≡ 2 ^ i * 2 = pow-suc 2 i in
    let m : rest2 * p ≡ (2 * rest + b) * p = ap (λ z. z * p) r in
    let w = twice (rest2 * p) (rest * p) (b * p) number number2 q (d * p) (x * 2 ^ i) (omega (arith, m)) t h.whole in
    let y : x * 2 ^ suc i ≡ x * 2 ^ i * 2 = rw s (omega arith) in
    record {
      quotient = 2 * q;
      below = rw s (omega (arith, below));
      whole = w ∙ ap (λ z. z + 2 * q) (sym y);
      less = l;
    }

-- the divisor is taken, and the quotient has a bit more
pub taken : (x d p rest number i b rest2 number2 rest3 number3 : ℕ) → Long x d p rest number i
    → number2 + b * p ≡ number + number → rest2 ≡ 2 * rest + b → b ≤ 1 → rest3 + d ≡ rest2 → number3 ≡ number2 + 1
    → Long x d p rest3 number3 (suc i)
taken x d p rest number i b rest2 number2 rest3 number3 h t r bit r3 n3 =
    let q = h.quotient in
    let below = h.below in
    let less = h.less in
    let s : 2 ^ suc i ≡ 2 ^ i * 2 = pow-suc 2 i in
    let m : rest2 * p ≡ (2 * rest + b) * p = ap (λ z. z * p) r in
    let m3 : (rest3 + d) * p ≡ rest2 * p = ap (λ z. z * p) r3 in
    let w = twice (rest2 * p) (rest * p) (b * p) number number2 q (d * p) (x * 2 ^ i) (omega (arith, m)) t h.whole in
    let y : x * 2 ^ suc i ≡ x * 2 ^ i * 2 = rw s (omega arith) in
    record {
      quotient = 2 * q + 1;
      below = rw s (omega (arith, below));
      whole = one_more (rest3 * p) (rest2 * p) (d * p) number2 number3 q (x * 2 ^ i * 2) (omega (arith, m3)) n3 w
          ∙ ap (λ z. z + (2 * q + 1)) (sym y);
      less = omega (arith, less, r, r3, bit);
    }
  where
    one_more : (a c k number2 number3 q y : ℕ) → a + k ≡ c → number3 ≡ number2 + 1 → c + number2 + 2 * q * k ≡ y + 2 * q
        → a + number3 + (2 * q + 1) * k ≡ y + (2 * q + 1)
    one_more a c k number2 number3 q y e g w = omega (arith, e, g, w)

pub quotient_is : (x d p rest number : ℕ) (i : ℕ) → 2 ^ i ≡ p → number < p → Long x d p rest number i
    → (number ≡ x / d) × (rest ≡ x % d)
quotient_is x d p rest number i e l h =
    let q = h.quotient in
    let below : q < p = rw (sym e) h.below in
    let w : rest * p + number + q * (d * p) ≡ x * 2 ^ i + q = h.whole in
    let w1 : (rest + q * d) * p + number ≡ x * p + q = omega (arith, w, ap (λ z. x * z) e) in
    let same : number ≡ q = sym (mod-mul-add (rest + q * d) p number l) ∙ ap (λ z. z % p) w1 ∙ mod-mul-add x p q below in
    let high : rest + q * d ≡ x = sym (div-mul-add (rest + q * d) p number l) ∙ ap (λ z. z / p) w1 ∙ div-mul-add x p q below in
    let x_is : x ≡ q * d + rest = omega (arith, high) in
    (same ∙ sym (ap (λ z. z / d) x_is ∙ div-mul-add q d rest h.less), sym (ap (λ z. z % d) x_is ∙ mod-mul-add q d rest h.less))

pub powers : (b : ℕ) → 2 ^ (8 * b) ≡ 256 ^ b
powers zero = refl
powers (suc b) =
    let e : 8 * suc b ≡ 8 * b + 8 = omega arith in
    ap (λ k. 2 ^ k) e ∙ pow-add 2 (8 * b) 8 ∙ ap (λ t. t * 2 ^ 8) (powers b) ∙ sym (pow-suc 256 b)

-- ---- the remainder is at most what the bits were that are brought

pub rest_is_small : (x d p rest number i : ℕ) → 1 ≤ d → x < p → Long x d p rest number i → rest < 2 ^ i
rest_is_small x d p rest number i some less h =
    let q = h.quotient in
    let w = h.whole in
    let some_power : 1 ≤ d * p = mul-le 1 1 d p some (omega arith) in
    let kept : q * 1 ≤ q * (d * p) = mul-le q 1 q (d * p) (omega arith) some_power in
    let high : rest * p ≤ x * 2 ^ i = omega (arith, w, kept) in
    ⊎_elim (λ (l : rest < 2 ^ i). l)
    (λ (l : 2 ^ i ≤ rest).
    let t : 2 ^ i * p ≤ rest * p = mul-le (2 ^ i) p rest p l (omega arith) in
    let power : 0 < 2 ^ i = power_pos i in
    let u : (x + 1) * 2 ^ i ≤ p * 2 ^ i = mul-le (x + 1) (2 ^ i) p (2 ^ i) (omega arith) (omega arith) in
    absurd (omega (arith, high, t, u, power)))
    (cases_lt rest (2 ^ i))
  where
    power_pos : (i : ℕ) → 0 < 2 ^ i
    power_pos zero = omega arith
    power_pos (suc i) = let h = power_pos i in rw pow-suc (omega arith)

-- the remainder alone, where no bit of the quotient is noted in the number
pub remainder_is : (x d p rest number low : ℕ) (i : ℕ) → 2 ^ i ≡ p → low < p → (h : Long x d p rest number i)
    → low + h.quotient ≡ number → rest ≡ x % d
remainder_is x d p rest number low i e l h k =
    let q = h.quotient in
    let w : rest * p + number + q * (d * p) ≡ x * 2 ^ i + q = h.whole in
    let w1 : (rest + q * d) * p + low ≡ x * p + 0 = omega (arith, w, k, ap (λ z. x * z) e) in
    let high : rest + q * d ≡ x =
    sym (div-mul-add (rest + q * d) p low l) ∙ ap (λ z. z / p) w1 ∙ div-mul-add x p 0 (omega arith) in
    let x_is : x ≡ q * d + rest = omega (arith, high) in
    sym (ap (λ z. z % d) x_is ∙ mod-mul-add q d rest h.less)

-- ---- the same, with the bits of the quotient that they leave

pub begins : (x d p rest : ℕ) → 1 ≤ d → rest ≡ 0 → (h : Long x d p rest x 0) × (h.quotient ≡ 0)
unfolding begun
begins x d p rest some q = (begun x d p rest some q, refl)

pub goes_without : (x d p rest number i b rest2 number2 : ℕ) → (h : Long x d p rest number i) → number2 + b * p ≡ number + number
    → rest2 ≡ 2 * rest + b → rest2 < d → (k : Long x d p rest2 number2 (suc i)) × (k.quotient ≡ 2 * h.quotient)
unfolding not_taken
goes_without x d p rest number i b rest2 number2 h t r l = (not_taken x d p rest number i b rest2 number2 h t r l, refl)

pub goes_with : (x d p rest number i b rest2 number2 rest3 number3 : ℕ) → (h : Long x d p rest number i)
    → number2 + b * p ≡ number + number → rest2 ≡ 2 * rest + b → b ≤ 1 → rest3 + d ≡ rest2 → number3 ≡ number2 + 1
    → (k : Long x d p rest3 number3 (suc i)) × (k.quotient ≡ 2 * h.quotient + 1)
unfolding taken
goes_with x d p rest number i b rest2 number2 rest3 number3 h t r bit r3 n3 =
    (taken x d p rest number i b rest2 number2 rest3 number3 h t r bit r3 n3, refl)

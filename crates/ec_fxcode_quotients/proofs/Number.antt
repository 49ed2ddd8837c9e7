-- What the loop leaves is the quotient.
use Rattle.std.proofs.Common.{◌≡◌, ℕ, suc, ◌+◌, ◌-◌, ◌*◌, ◌/◌, ◌%◌, ◌^◌, ◌<◌, ◌≤◌, ⊎_elim, sym, ap, ◌∙◌, subst, arith, pow-add}
use Rattle.std.proofs.lemmas.Bool.{cases_lt}
use Rattle.std.proofs.lemmas.Nat.{mul-le, mod-mul-add, div-mul-add, div-add-mod', mod_below, pow_pos}
use Rattle.std.proofs.Math.Nat.{mul-div-mul_right, pow-le-pow_right}
use native.Mathlib.Nat.{pow-suc}
use Rattle.ec_select_quotients.proofs.Long.{Long}
use Rattle.ec_fxcode.proofs.Clamped.{bits_power}

-- two numbers in two parts
low_is : (a b p x y : ℕ) → a * p + x ≡ b * p + y → x < p → y < p → x ≡ y
low_is a b p x y h l m = sym (mod-mul-add a p x l) ∙ ap (λ t. t % p) h ∙ mod-mul-add b p y m

high_is : (a b p x y : ℕ) → a * p + x ≡ b * p + y → x < p → y < p → a ≡ b
high_is a b p x y h l m = sym (div-mul-add a p x l) ∙ ap (λ t. t / p) h ∙ div-mul-add b p y m

low_quotient : (P D rest Y Q N L K J M : ℕ) → rest * P + Y + Q * (D * P) ≡ N * P + (L * K + Q) → Y < P → L * K + Q < P
    → rest < D → Q < M → K ≡ J * M → (Y % M ≡ Q) × (Q ≡ N / D)
low_quotient P D rest Y Q N L K J M h ly lq lr lm k =
    let e : (rest + Q * D) * P + Y ≡ N * P + (L * K + Q) = omega (arith, h) in
    let y : Y ≡ L * K + Q = low_is (rest + Q * D) N P Y (L * K + Q) e ly lq in
    let n : rest + Q * D ≡ N = high_is (rest + Q * D) N P Y (L * K + Q) e ly lq in
    let split : L * K ≡ L * J * M = (let z : L * K ≡ L * (J * M) = ap (λ t. L * t) k in omega (arith, z)) in
    let whole : Y ≡ L * J * M + Q = omega (arith, y, split) in
    let n2 : N ≡ Q * D + rest = omega (arith, n) in
    (ap (λ t. t % M) whole ∙ mod-mul-add (L * J) M Q lm, sym (ap (λ t. t / D) n2 ∙ div-mul-add Q D rest lr))

-- ---- powers

power_of : (n k : ℕ) → 2 ^ (8 * n + k) ≡ 256 ^ n * 2 ^ k
power_of n k = pow-add 2 (8 * n) k ∙ ap (λ t. t * 2 ^ k) (bits_power n)

pub twice_below : (T : ℕ) → 2 * 2 ^ T ≤ 256 ^ (T / 8 + 1)
twice_below T =
    let a : 2 ^ suc T ≤ 2 ^ (8 * (T / 8 + 1)) = pow-le-pow_right {n = 2} (omega arith) {i = suc T} {j = 8 * (T / 8 + 1)} (omega arith) in
    let b = pow-suc 2 T in
    let e = bits_power (T / 8 + 1) in
    omega (arith, a, b, e)

more_bytes : (m n : ℕ) → m ≤ n → 256 ^ m ≤ 256 ^ n
more_bytes m n l = pow-le-pow_right {n = 256} (omega arith) {i = m} {j = n} l

-- ---- the number scaled up

scaled_up : (A D a z n m up down T rest Y : ℕ) → n ≡ z + a → T ≡ 8 * a + (up - down) → down ≤ up → m ≡ T / 8 + 1 → m ≤ n
    → Y < 256 ^ n → Long (A * 256 ^ z) D (256 ^ n) rest Y T
    → (Y % 256 ^ m ≡ A * 2 ^ up / (D * 2 ^ down)) × (A * 2 ^ up / (D * 2 ^ down) < 2 ^ T)
scaled_up A D a z n m up down T rest Y en et le em lm ly h =
    let s = up - down in
    let P = 256 ^ n in
    let Q = h.quotient in
    let below = h.below in
    let less = h.less in
    let pw : 2 ^ T ≡ 256 ^ a * 2 ^ s = ap (λ t. 2 ^ t) et ∙ power_of a s in
    let pn : P ≡ 256 ^ z * 256 ^ a = ap (λ t. 256 ^ t) en ∙ pow-add 256 z a in
    let right : A * 256 ^ z * 2 ^ T ≡ A * 2 ^ s * P = rw (pw, pn) (omega arith) in
    let fit : 2 * 2 ^ T ≤ 256 ^ m = rw em (twice_below T) in
    let wide = more_bytes m n lm in
    let whole : rest * P + Y + Q * (D * P) ≡ A * 2 ^ s * P + (0 * P + Q) =
    (let z : rest * P + Y + Q * (D * P) ≡ A * 2 ^ s * P + Q = h.whole ∙ ap (λ t. t + Q) right in omega (arith, z)) in
    let big : 1 * 256 ^ m ≡ 256 ^ m = omega arith in
    let split : P ≡ 256 ^ (n - m) * 256 ^ m = (let e : n ≡ (n - m) + m = omega arith in ap (λ t. 256 ^ t) e ∙ pow-add 256 (n - m) m) in
    let r = low_quotient P D rest Y Q (A * 2 ^ s) 0 P (256 ^ (n - m)) (256 ^ m) whole ly (omega (arith, below, fit, wide)) less
    (omega (arith, below, fit)) split in
    let back : up ≡ s + down = omega arith in
    let num : A * 2 ^ up ≡ A * 2 ^ s * 2 ^ down =
    (let e : 2 ^ up ≡ 2 ^ s * 2 ^ down = ap (λ t. 2 ^ t) back ∙ pow-add 2 s down in rw e (omega arith)) in
    let q : A * 2 ^ up / (D * 2 ^ down) ≡ A * 2 ^ s / D =
    ap (λ t. t / (D * 2 ^ down)) num ∙ mul-div-mul_right (A * 2 ^ s) D (pow_pos down) in
    let is : Q ≡ A * 2 ^ up / (D * 2 ^ down) = r.1 ∙ sym q in
    (r.0 ∙ is, subst (λ t. t < 2 ^ T) is below)

-- ---- the number scaled down: its lowest bits are not brought to the remainder

-- a quotient by two divisors, one after the other
div_twice : (x p d : ℕ) → 0 < p → 0 < d → x / (d * p) ≡ x / p / d
div_twice x p d hp hd =
    let a = div-add-mod' x p in
    let b = div-add-mod' (x / p) d in
    let lp = mod_below x p hp in
    let ld = mod_below (x / p) d hd in
    let y = x / p in
    let q = y / d in
    let r = y % d in
    let e : y * p ≡ (q * d + r) * p = ap (λ t. t * p) (sym b) in
    let whole : x ≡ q * (d * p) + (r * p + x % p) = omega (arith, a, e) in
    let room : suc r * p ≤ d * p = mul-le (suc r) p d p ld (omega arith) in
    ap (λ t. t / (d * p)) whole ∙ div-mul-add q (d * p) (r * p + x % p) (omega (arith, room, lp))

scaled_down : (A D a z n m up down T rest Y : ℕ) → n ≡ z + a → T + (down - up) ≡ 8 * a → up < down → m ≡ T / 8 + 1
    → a + 1 ≤ n → Y < 256 ^ n → 1 ≤ D → Long (A * 256 ^ z) D (256 ^ n) rest Y T
    → (Y % 256 ^ m ≡ A * 2 ^ up / (D * 2 ^ down)) × (A * 2 ^ up / (D * 2 ^ down) < 2 ^ T)
scaled_down A D a z n m up down T rest Y en et lt em la ly some h =
    let s = down - up in
    let P = 256 ^ n in
    let Q = h.quotient in
    let below = h.below in
    let less = h.less in
    let S = 2 ^ s in
    let one : 0 < S = pow_pos s in
    let K = 2 ^ (8 * z + T) in
    let pa : 2 ^ T * S ≡ 256 ^ a = sym (pow-add 2 T s) ∙ ap (λ t. 2 ^ t) et ∙ bits_power a in
    let pk : K ≡ 256 ^ z * 2 ^ T = power_of z T in
    let pn : P ≡ 256 ^ z * 256 ^ a = ap (λ t. 256 ^ t) en ∙ pow-add 256 z a in
    let PK : P ≡ K * S = (let e : 256 ^ z * (2 ^ T * S) ≡ 256 ^ z * 256 ^ a = ap (λ t. 256 ^ z * t) pa in rw pk (omega (arith, pn, e))) in
    let hi = A / S in
    let lo = A % S in
    let parts = div-add-mod' A S in
    let lo_small = mod_below A S one in
    let right : A * 256 ^ z * 2 ^ T ≡ hi * P + lo * K = (let e : A * K ≡ (hi * S + lo) * K = ap (λ t. t * K) (sym parts) in
    let f : A * 256 ^ z * 2 ^ T ≡ A * K = rw pk (omega arith) in
    let g : hi * P ≡ hi * (K * S) = ap (λ t. hi * t) PK in
    omega (arith, e, f, g)) in
    let whole : rest * P + Y + Q * (D * P) ≡ hi * P + (lo * K + Q) =
    (let e : rest * P + Y + Q * (D * P) ≡ hi * P + lo * K + Q = h.whole ∙ ap (λ t. t + Q) right in omega (arith, e)) in
    let zk : 1 * 2 ^ T ≤ 256 ^ z * 2 ^ T = mul-le 1 (2 ^ T) (256 ^ z) (2 ^ T) (more_bytes 0 z (omega arith)) (omega arith) in
    let tk : 2 ^ T ≤ K = rw pk (omega (arith, zk)) in
    let room : suc lo * K ≤ S * K = mul-le (suc lo) K S K lo_small (omega arith) in
    let fit : 2 * 2 ^ T ≤ 256 ^ m = rw em (twice_below T) in
    let km : 8 * z + T ≡ 8 * m + (8 * z + T - 8 * m) = omega (arith, em, en, la) in
    let J = 2 ^ (8 * z + T - 8 * m) in
    let split : K ≡ J * 256 ^ m = ap (λ t. 2 ^ t) km ∙ power_of m (8 * z + T - 8 * m) ∙ omega arith in
    let r =
    low_quotient P D rest Y Q hi lo K J (256 ^ m) whole ly (omega (arith, below, tk, room, PK)) less (omega (arith, below, fit)) split in
    let back : down ≡ s + up = omega arith in
    let den : D * 2 ^ down ≡ D * S * 2 ^ up =
    (let e : 2 ^ down ≡ S * 2 ^ up = ap (λ t. 2 ^ t) back ∙ pow-add 2 s up in rw e (omega arith)) in
    let q : A * 2 ^ up / (D * 2 ^ down) ≡ hi / D =
    ap (λ t. A * 2 ^ up / t) den ∙ mul-div-mul_right A (D * S) (pow_pos up) ∙ div_twice A S D one some in
    let is : Q ≡ A * 2 ^ up / (D * 2 ^ down) = r.1 ∙ sym q in
    (r.0 ∙ is, subst (λ t. t < 2 ^ T) is below)

-- ---- both

pub quotient_low : (A D a z n m up down T rest Y : ℕ) → n ≡ z + a → T ≡ 8 * a + up - down → down ≤ 8 * a
    → m ≡ T / 8 + 1 → m ≤ n → a + 1 ≤ n → Y < 256 ^ n → 1 ≤ D → Long (A * 256 ^ z) D (256 ^ n) rest Y T
    → (Y % 256 ^ m ≡ A * 2 ^ up / (D * 2 ^ down)) × (A * 2 ^ up / (D * 2 ^ down) < 2 ^ T)
quotient_low A D a z n m up down T rest Y en et inside em lm la ly some h =
    ⊎_elim
    (λ (less : up < down). scaled_down A D a z n m up down T rest Y en (omega (arith, et, inside, less)) less em la ly some h)
    (λ (more : down ≤ up). scaled_up A D a z n m up down T rest Y en (omega (arith, et, more)) more em lm ly h)
    (cases_lt up down)

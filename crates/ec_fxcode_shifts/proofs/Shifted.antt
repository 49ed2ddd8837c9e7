-- What is in the bytes is the shifted value.
use Rattle.std.proofs.Common.{◌≡◌, ℕ, zero, suc, ◌+◌, ◌-◌, ◌*◌, ◌/◌, ◌%◌, ◌^◌, ◌<◌, ◌≤◌, true, false, sym, ap, ◌∙◌, arith, ℤ, pos, negsuc}
use Rattle.std.proofs.Common.{neg_ℤ, ◌*ℤ◌}
use Rattle.std.proofs.lemmas.Nat.{mul-le, mod-mul-add, div-add-mod'}
use Rattle.ec_fx.specs.declared.formats.Format.{Format}
use Rattle.ec_fx.specs.declared.numbers.Mode.{Mode}
use Rattle.ec_fx.specs.Results.{fit}
use Rattle.ec_fx.specs.Rounding.{trunc}
use Rattle.ec_fxcode.specs.ClampLaws.{signed_number, HoldsResult}
use Rattle.ec_fxcode.proofs.Fits.{plus, minus, signed_inside, negative_inside, unsigned_inside}

-- ---- to the left

pub div_one : (z : ℤ) → trunc z 1 ≡ z
div_one (pos n) = let e : n / 1 ≡ n = omega arith in ap pos e
div_one (negsuc n) = let e : suc n / 1 ≡ suc n = omega arith in ap (λ (m : ℕ). neg_ℤ (pos m)) e

-- a number below N times a power of two of at most half of N
room : (A N p : ℕ) → A < N → 2 * p ≤ N → 2 * (A * p) < N * N
room A N p l h =
    let a : A * (2 * p) ≤ A * N = mul-le A (2 * p) A N (omega arith) h in
    let b : suc A * N ≤ N * N = mul-le (suc A) N N N l (omega arith) in
    omega (arith, a, b, l)

pub small : (x m : ℕ) → x < m → x % m ≡ x
small x m h = let e : x ≡ 0 * m + x = omega arith in ap (λ t. t % m) e ∙ mod-mul-add 0 m x h

-- of a number that is not negative
pub left_plus : (n A N p : ℕ) → 256 ^ n ≡ N * N → A < N → 2 * p ≤ N
    → signed_number n (A * p % 256 ^ n) ≡ pos A *ℤ pos p
left_plus n A N p e l h =
    let r : 2 * (A * p) < 256 ^ n = rw e (room A N p l h) in
    let q : A * p % 256 ^ n ≡ A * p = small (A * p) (256 ^ n) (omega (arith, r)) in
    rw q (plus n (A * p) r)

times_negative : (m p y : ℕ) → suc m * p ≡ suc y → negsuc m *ℤ pos p ≡ negsuc y
times_negative m p y e = ap (λ (t : ℕ). neg_ℤ (pos t)) e

-- of a negative one: M is its magnitude, and W are its bytes with those of the sign
pub left_minus : (n W M N p : ℕ) → 256 ^ n ≡ N * N → W + M ≡ N * N → 1 ≤ M → 2 * M ≤ N → 1 ≤ p → 2 * p ≤ N
    → signed_number n (W * p % 256 ^ n) ≡ negsuc (M - 1) *ℤ pos p
left_minus n W M N p e w some half one h =
    let a : M * (2 * p) ≤ M * N = mul-le M (2 * p) M N (omega arith) h in
    let b : 2 * M * N ≤ N * N = mul-le (2 * M) N N N half (omega arith) in
    let c : 1 * 1 ≤ M * p = mul-le 1 1 M p some one in
    let t : (W + M) * p ≡ N * N * p = ap (λ z. z * p) w in
    let u : p - 1 + 1 ≡ p = omega arith in
    let split : N * N * p ≡ (p - 1) * (N * N) + N * N =
    (let z : N * N * (p - 1 + 1) ≡ N * N * p = ap (λ z. N * N * z) u in omega (arith, z)) in
    let whole : W * p ≡ (p - 1) * (N * N) + (N * N - M * p) = omega (arith, t, split, a, b) in
    let q : W * p % 256 ^ n ≡ N * N - M * p =
    rw e (ap (λ z. z % (N * N)) whole ∙ mod-mul-add (p - 1) (N * N) (N * N - M * p) (omega (arith, a, b, c))) in
    let x = N * N - M * p in
    let neg : signed_number n x ≡ negsuc (256 ^ n - x - 1) = minus n x (rw e (omega (arith, a, b))) (rw e (omega (arith, a, b, c))) in
    let same : 256 ^ n - x - 1 ≡ M * p - 1 = rw e (omega (arith, a, b, c)) in
    let up : suc (M - 1) ≡ M = omega arith in
    let times : suc (M - 1) * p ≡ suc (M * p - 1) = ap (λ z. z * p) up ∙ omega (arith, c) in
    rw q (neg ∙ ap negsuc same ∙ sym (times_negative (M - 1) p (M * p - 1) times))

-- ---- to the right

div_le : (x p : ℕ) → 1 ≤ p → x / p ≤ x
div_le x p l =
    let d = div-add-mod' x p in
    let m : x / p * 1 ≤ x / p * p = mul-le (x / p) 1 (x / p) p (omega arith) l in
    omega (arith, d, m)

pub right_plus : (f : Format) (mode : Mode) (k A h p Y : ℕ) → f.signed ≡ true → 2 ^ (f.bits - 1) ≡ h → A < h → 1 ≤ p
    → Y ≡ A / p → HoldsResult k (fit f mode (trunc (pos A) p)) Y
right_plus f mode k A h p Y s e l one y =
    let d = div_le A p one in
    rw (signed_inside f mode (A / p) h s e (omega arith)) y

pub right_unsigned : (f : Format) (mode : Mode) (k A P p Y : ℕ) → f.signed ≡ false → 2 ^ f.bits ≡ P → A < P → 1 ≤ p
    → Y ≡ A / p → HoldsResult k (fit f mode (trunc (pos A) p)) Y
right_unsigned f mode k A P p Y s e l one y =
    let d = div_le A p one in
    rw (unsigned_inside f mode (A / p) P s e (omega arith)) y

-- a magnitude S with its sign, where c is the last borrow
back_minus : (f : Format) (mode : Mode) (k h S Y c : ℕ) → f.signed ≡ true → 2 ^ (f.bits - 1) ≡ h → 256 ^ k ≡ 2 * h
    → 1 ≤ h → S ≤ h → Y < 256 ^ k → c ≤ 1 → Y + S ≡ c * 256 ^ k → HoldsResult k (fit f mode (neg_ℤ (pos S))) Y
back_minus f mode k h zero Y zero s e w o l b d r = rw (signed_inside f mode 0 h s e o) (omega (arith, r))
back_minus f mode k h zero Y (suc c) s e w o l b d r = absurd (too_much Y c (256 ^ k) b d r)
  where
    too_much : (y c n : ℕ) → y < n → suc c ≤ 1 → y + 0 ≡ suc c * n → ⊥
    too_much y zero n l m q = omega (arith, l, q)
    too_much y (suc c) n l m q = absurd (omega (arith, m))
back_minus f mode k h (suc t) Y zero s e w o l b d r = absurd (omega (arith, r))
back_minus f mode k h (suc t) Y (suc c) s e w o l b d r =
    rw (negative_inside f mode t h s e (omega arith)) (rest Y t c (256 ^ k) d r)
  where
    rest : (y t c n : ℕ) → suc c ≤ 1 → y + suc t ≡ suc c * n → y ≡ n - (t + 1)
    rest y t zero n l q = omega (arith, q)
    rest y t (suc c) n l q = absurd (omega (arith, l))

pub right_minus : (f : Format) (mode : Mode) (k h M p Y c : ℕ) → f.signed ≡ true → 2 ^ (f.bits - 1) ≡ h
    → 256 ^ k ≡ 2 * h → 1 ≤ M → M ≤ h → 1 ≤ p → Y < 256 ^ k → c ≤ 1 → Y + M / p ≡ c * 256 ^ k
    → HoldsResult k (fit f mode (trunc (negsuc (M - 1)) p)) Y
right_minus f mode k h M p Y c s e w some less one b d r =
    let up : suc (M - 1) ≡ M = omega arith in
    let q = div_le M p one in
    let t : trunc (negsuc (M - 1)) p ≡ neg_ℤ (pos (M / p)) = ap (λ (z : ℕ). neg_ℤ (pos (z / p))) up in
    rw t (back_minus f mode k h (M / p) Y c s e w (omega arith) (omega arith) b d r)

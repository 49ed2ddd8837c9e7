-- Numbers in two's complement, moved by whole bytes and by one bit.
use Rattle.std.proofs.Common.{◌≡◌, ℕ, suc, ◌+◌, ◌-◌, ◌*◌, ◌%◌, ◌^◌, ◌<◌, ◌≤◌, inl, inr, ⊎_elim, Bool, true, false, refl, sym, ap, ◌∙◌}
use Rattle.std.proofs.Common.{arith, pow-add, pos, negsuc, neg_ℤ, ◌*ℤ◌}
use Rattle.std.specs.Prelude.{nat_le}
use Rattle.std.proofs.lemmas.Bool.{cases_lt, le-leb}
use Rattle.std.proofs.lemmas.Bool.Decides.{nat_tests}
use Rattle.std.proofs.lemmas.Nat.{mul-le, mod-mul-add, pow_pos as two_pow_pos}
use Rattle.std.proofs.Math.Nat.{pow-le-pow_right}
use native.Mathlib.Nat.{pow-suc}
use Rattle.ec_asm.proofs.Numbers.{pow_pos}
use Rattle.ec_select_shifts.specs.declared.shifts.Direction.{Direction}
use Rattle.ec_select_shifts.specs.declared.shifts.Direction.TheVariants.{Left, Right}
use Rattle.ec_select_shifts.proofs.Once.{once}
use Rattle.ec_fxcode.specs.ClampLaws.{signed_number}
use Rattle.ec_fxcode.proofs.Clamped.{bits_power}
use Rattle.ec_fxcode.proofs.Fits.{plus, minus}
use Rattle.ec_fxcode.proofs.Parts.{IsSign}
use Rattle.ec_fxcode_shifts.specs.ShiftLaws.{number_in}
use Rattle.ec_fxcode_shifts.proofs.Shifted.{small}
use Rattle.ec_fxcode_scales.specs.Scales.{nearest, is_one_more, is_one_less}
use Rattle.ec_fxcode_scales.specs.ScaleLaws.{IsScale}

-- ---- powers

pub whole_power : (d : ℕ) → d % 8 ≡ 0 → 2 ^ d ≡ 256 ^ nearest d
whole_power d e = let q : d ≡ 8 * nearest d = omega (arith, e) in ap (λ t. 2 ^ t) q ∙ bits_power (nearest d)

pub more_power : (d : ℕ) → d % 8 ≡ 1 → 2 ^ d ≡ 2 * 256 ^ nearest d
more_power d e =
    let q : d ≡ suc (8 * nearest d) = omega (arith, e) in
    let p = pow-suc 2 (8 * nearest d) in
    let b = bits_power (nearest d) in
    ap (λ t. 2 ^ t) q ∙ omega (arith, p, b)

pub less_power : (d : ℕ) → d % 8 ≡ 7 → 2 * 2 ^ d ≡ 256 ^ nearest d
less_power d e =
    let q : suc d ≡ 8 * nearest d = omega (arith, e) in
    let p = pow-suc 2 d in
    let b : 2 ^ suc d ≡ 256 ^ nearest d = ap (λ t. 2 ^ t) q ∙ bits_power (nearest d) in
    omega (arith, p, b)

-- a number of n bytes has room, once multiplied, with two bits to spare
pub room : (n d m : ℕ) → 8 * n + d + 2 ≤ 8 * m → 4 * (256 ^ n * 2 ^ d) ≤ 256 ^ m
room n d m l =
    let a : 2 ^ (8 * n + d + 2) ≤ 2 ^ (8 * m) = pow-le-pow_right {n = 2} (omega arith) {i = 8 * n + d + 2} {j = 8 * m} l in
    let b = pow-add 2 (8 * n + d) 2 in
    let c = pow-add 2 (8 * n) d in
    let e = bits_power m in
    let f = bits_power n in
    let g : 2 ^ (8 * n) * 2 ^ d ≡ 256 ^ n * 2 ^ d = ap (λ t. t * 2 ^ d) f in
    omega (arith, a, b, c, e, g)

-- ---- one bit

-- the number after the code of one bit
abbrev pub after_bit : Bool → Direction → (n x : ℕ) → ℕ
after_bit true way n x = once way n x
after_bit false way n x = x

pub doubled_plus : (n x y : ℕ) → y ≡ 2 * x → y < 256 ^ n → once Left n x ≡ y
doubled_plus n x y e l = let q : x + x ≡ y = omega (arith, e) in ap (λ t. t % 256 ^ n) q ∙ small y (256 ^ n) l

doubled_minus : (n x M K : ℕ) → x + M ≡ 256 ^ n → K ≡ 2 * M → 1 ≤ M → K ≤ 256 ^ n → once Left n x + K ≡ 256 ^ n
doubled_minus n x M K e k some l =
    let N = 256 ^ n in
    let q : x + x ≡ 1 * N + (N - K) = omega (arith, e, k, l) in
    let r : (x + x) % N ≡ N - K = ap (λ t. t % N) q ∙ mod-mul-add 1 N (N - K) (omega (arith, k, some, l)) in
    omega (arith, r, l)

not_le : (a b : ℕ) → b < a → nat_le a b ≡ false
not_le a b h = grind (arith, nat_tests)

halved_plus : (n x y : ℕ) → x ≡ 2 * y → 2 * x < 256 ^ n → once (Right true) n x ≡ y
halved_plus n x y e l = rw (not_le (256 ^ n) (2 * x) l) (omega (arith, e))

halved_minus : (n x K : ℕ) → x + 2 * K ≡ 256 ^ n → 4 * K ≤ 256 ^ n → once (Right true) n x + K ≡ 256 ^ n
halved_minus n x K e l = rw (le-leb (256 ^ n) (2 * x) (omega (arith, e, l))) (omega (arith, e))

-- ---- times a power of two

-- the number after both codes of one bit
abbrev pub scaled : (m d x : ℕ) → ℕ
scaled m d x = after_bit (is_one_less d) (Right true) m (after_bit (is_one_more d) Left m x)

-- X is A with bytes of 0 below it
scaled_plus : (m d A X : ℕ) → IsScale d → X ≡ 256 ^ nearest d * A → 4 * (A * 2 ^ d) < 256 ^ m → scaled m d X ≡ A * 2 ^ d
scaled_plus m d A X (inl e) x l =
    let p : A * 2 ^ d ≡ A * 256 ^ nearest d = ap (λ t. A * t) (whole_power d e) in
    rw e (omega (arith, x, p))
scaled_plus m d A X (inr (inl e)) x l =
    let p : A * 2 ^ d ≡ A * (2 * 256 ^ nearest d) = ap (λ t. A * t) (more_power d e) in
    rw e (doubled_plus m X (A * 2 ^ d) (omega (arith, x, p)) (omega (arith, l)))
scaled_plus m d A X (inr (inr e)) x l =
    let p : A * (2 * 2 ^ d) ≡ A * 256 ^ nearest d = ap (λ t. A * t) (less_power d e) in
    rw e (halved_plus m X (A * 2 ^ d) (omega (arith, x, p)) (omega (arith, x, p, l)))

-- X is the complement of M with bytes of 0 below it
scaled_minus : (m d M X : ℕ) → IsScale d → X + 256 ^ nearest d * M ≡ 256 ^ m → 1 ≤ 256 ^ nearest d * M
    → 4 * (M * 2 ^ d) ≤ 256 ^ m → scaled m d X + M * 2 ^ d ≡ 256 ^ m
scaled_minus m d M X (inl e) x some l =
    let p : M * 2 ^ d ≡ M * 256 ^ nearest d = ap (λ t. M * t) (whole_power d e) in
    rw e (omega (arith, x, p))
scaled_minus m d M X (inr (inl e)) x some l =
    let p : M * 2 ^ d ≡ M * (2 * 256 ^ nearest d) = ap (λ t. M * t) (more_power d e) in
    rw e (doubled_minus m X (256 ^ nearest d * M) (M * 2 ^ d) x (omega (arith, p)) some (omega (arith, l)))
scaled_minus m d M X (inr (inr e)) x some l =
    let p : M * (2 * 2 ^ d) ≡ M * 256 ^ nearest d = ap (λ t. M * t) (less_power d e) in
    rw e (halved_minus m X (M * 2 ^ d) (omega (arith, x, p)) l)

-- ---- with a sign

signed_plus : (m A P X : ℕ) → X ≡ A * P → 2 * (A * P) < 256 ^ m → signed_number m X ≡ pos A *ℤ pos P
signed_plus m A P X x l = ap (signed_number m) x ∙ plus m (A * P) l

times_negative : (k p y : ℕ) → suc k * p ≡ suc y → negsuc k *ℤ pos p ≡ negsuc y
times_negative k p y e = ap (λ (t : ℕ). neg_ℤ (pos t)) e

signed_minus : (m M P X : ℕ) → X + M * P ≡ 256 ^ m → 1 ≤ M → 1 ≤ P → 2 * (M * P) ≤ 256 ^ m
    → signed_number m X ≡ negsuc (M - 1) *ℤ pos P
signed_minus m M P X x some one l =
    let c : 1 * 1 ≤ M * P = mul-le 1 1 M P some one in
    let same : 256 ^ m - X - 1 ≡ M * P - 1 = omega (arith, x) in
    let up : suc (M - 1) ≡ M = omega arith in
    let times : suc (M - 1) * P ≡ suc (M * P - 1) = ap (λ z. z * P) up ∙ omega (arith, c) in
    minus m X (omega (arith, x, l)) (omega (arith, x, c)) ∙ ap negsuc same ∙ sym (times_negative (M - 1) P (M * P - 1) times)

-- what X is by the byte of the sign of A, a number of n bytes, where z bytes of 0 are below it
pub record IsPlaced (n m z A byte X : ℕ) : Type 0 where
  pub plus_is : byte ≡ 0 → X ≡ 256 ^ z * A
  pub minus_is : byte ≡ 255 → X + 256 ^ z * (256 ^ n - A) ≡ 256 ^ m

fits : (A B P N : ℕ) → A < B → 1 ≤ P → 4 * (B * P) ≤ N → 4 * (A * P) < N
fits A B P N l one h = let a : suc A * P ≤ B * P = mul-le (suc A) P B P l (omega arith) in omega (arith, a, one, h)

fits_too : (A B P N : ℕ) → A ≤ B → 4 * (B * P) ≤ N → 4 * (A * P) ≤ N
fits_too A B P N l h = let a : A * P ≤ B * P = mul-le A P B P l (omega arith) in omega (arith, a, h)

some_product : (n M : ℕ) → 1 ≤ M → 1 ≤ 256 ^ n * M
some_product n M l = let a : 1 * 1 ≤ 256 ^ n * M = mul-le 1 1 (256 ^ n) M (pow_pos n) l in omega (arith, a)

-- the number of n bytes times two to the power of d
pub scaled_value : (signed : Bool) (n m d A byte X : ℕ) → IsScale d → 8 * n + d + 2 ≤ 8 * m → A < 256 ^ n
    → (signed ≡ true → IsSign A (256 ^ n) byte) → (signed ≡ false → byte ≡ 0) → IsPlaced n m (nearest d) A byte X
    → signed_number m (scaled m d X) ≡ number_in signed n A *ℤ pos (2 ^ d)
scaled_value false n m d A byte X is l below sign none placed =
    let r = fits A (256 ^ n) (2 ^ d) (256 ^ m) below (two_pow_pos d) (room n d m l) in
    signed_plus m A (2 ^ d) (scaled m d X) (scaled_plus m d A X is (placed.plus_is (none refl)) r) (omega (arith, r))
scaled_value true n m d A byte X is l below sign none placed =
    let N = 256 ^ n in
    let P = 2 ^ d in
    let R = scaled m d X in
    let s = sign refl in
    let wide = room n d m l in
    let one = two_pow_pos d in
    ⊎_elim
    (λ (less : 2 * A < N).
    let r = fits A N P (256 ^ m) below one wide in
    let x = scaled_plus m d A X is (placed.plus_is (s.plus less)) r in
    signed_plus m A P R x (omega (arith, r)) ∙ ap (λ t. t *ℤ pos P) (sym (plus n A less)))
    (λ (more : N ≤ 2 * A).
    let M = N - A in
    let r = fits_too M N P (256 ^ m) (omega arith) wide in
    let x = scaled_minus m d M X is (placed.minus_is (s.minus more)) (some_product (nearest d) M (omega arith)) r in
    signed_minus m M P R x (omega arith) one (omega (arith, r)) ∙ ap (λ t. t *ℤ pos P) (sym (minus n A more below)))
    (cases_lt (2 * A) N)

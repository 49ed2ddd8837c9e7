-- Numbers in two's complement: what a sum, a difference, a negation and a comparison of their bytes tell.
use borrow.Author.Differences.{up, down}
use Rattle.std.proofs.Common.{◌≡◌, ℕ, ◌+◌, ◌-◌, ◌*◌, ◌/◌, ◌%◌, ◌<◌, ◌≤◌, ◌⊎◌, inl, inr, ⊎_elim, if◌then◌else◌, refl, sym, ap, ◌∙◌}
use Rattle.std.proofs.Common.{subst, arith, ℤ, pos, negsuc, neg_ℤ, ◌+ℤ◌, ◌-ℤ◌, unsigned_abs, int_lt, nat_lt}
use Rattle.std.proofs.lemmas.Bool.{cases_lt, lt-ltb, le-ltb}
use Rattle.std.proofs.lemmas.Bool.Decides.{nat_tests}
use Rattle.std.proofs.lemmas.Int.{ints}
use Rattle.std.proofs.lemmas.Nat.{mod_below, mod-mul-add}

pub unsigned_abs-parts : (z : ℤ) → unsigned_abs z ≡ up z + down z
unsigned_abs-parts (pos n) = omega arith
unsigned_abs-parts (negsuc n) = omega arith

-- N is 256 ^ n, and x a number below it: the number that its bytes stand for
abbrev pub read : (N x : ℕ) → ℤ
read N x = if nat_lt (2 * x) N then pos x else pos x -ℤ pos N

-- it is x, or less by N
abbrev IsOf : (N x : ℕ) → ℤ → Type 0
IsOf N x z = (z ≡ pos x) ⊎ (z ≡ pos x -ℤ pos N)

read_low : (N x : ℕ) → 2 * x < N → read N x ≡ pos x
read_low N x l = rw (lt-ltb (2 * x) N l) refl

read_high : (N x : ℕ) → N ≤ 2 * x → read N x ≡ pos x -ℤ pos N
read_high N x l = rw (le-ltb (2 * x) N l) refl

is_of : (N x : ℕ) → IsOf N x (read N x)
is_of N x = ⊎_elim (λ (l : 2 * x < N). inl (read_low N x l)) (λ (l : N ≤ 2 * x). inr (read_high N x l)) (cases_lt (2 * x) N)

-- a number of less than half of N is what its bytes stand for
pub read_is : (N x : ℕ) (z : ℤ) → x < N → 2 * unsigned_abs z < N → IsOf N x z → read N x ≡ z
read_is N x z l b (inl e) =
    let low : 2 * x < N = omega (arith, ints, unsigned_abs-parts z, e, b) in
    read_low N x low ∙ sym e
read_is N x z l b (inr e) =
    let high : N ≤ 2 * x = omega (arith, ints, unsigned_abs-parts z, e, b, l) in
    read_high N x high ∙ sym e

-- ---- sums

sum_of_parts : (N x y z : ℕ) (X Y : ℤ) → IsOf N x X → IsOf N y Y → z < N → 2 * unsigned_abs (Y +ℤ X) < N
    → (z ≡ y + x) ⊎ (z + N ≡ y + x) → IsOf N z (Y +ℤ X)
sum_of_parts N x y z X Y (inl a) (inl c) l b (inl e) = inl (omega (arith, ints, a, c, e))
sum_of_parts N x y z X Y (inl a) (inl c) l b (inr e) = absurd (omega (arith, ints, unsigned_abs-parts (Y +ℤ X), a, c, e, b))
sum_of_parts N x y z X Y (inl a) (inr c) l b (inl e) = inr (omega (arith, ints, a, c, e))
sum_of_parts N x y z X Y (inl a) (inr c) l b (inr e) = inl (omega (arith, ints, a, c, e))
sum_of_parts N x y z X Y (inr a) (inl c) l b (inl e) = inr (omega (arith, ints, a, c, e))
sum_of_parts N x y z X Y (inr a) (inl c) l b (inr e) = inl (omega (arith, ints, a, c, e))
sum_of_parts N x y z X Y (inr a) (inr c) l b (inl e) = absurd (omega (arith, ints, unsigned_abs-parts (Y +ℤ X), a, c, e, b, l))
sum_of_parts N x y z X Y (inr a) (inr c) l b (inr e) = inr (omega (arith, ints, a, c, e))

-- the remainder of what is below twice N
mod_once : (x N : ℕ) → 0 < N → x < 2 * N → (x % N ≡ x) ⊎ (x % N + N ≡ x)
mod_once x N some l =
    ⊎_elim
    (λ (k : x < N). let e : x ≡ 0 * N + x = omega arith in inl (ap (λ t. t % N) e ∙ mod-mul-add 0 N x k))
    (λ (k : N ≤ x).
    let e : x ≡ 1 * N + (x - N) = omega arith in
    let m : x % N ≡ x - N = ap (λ t. t % N) e ∙ mod-mul-add 1 N (x - N) (omega arith) in
    inr (omega (arith, m, k)))
    (cases_lt x N)

pub read_sum : (N x y : ℕ) → x < N → y < N → 2 * unsigned_abs (read N y +ℤ read N x) < N
    → read N ((y + x) % N) ≡ read N y +ℤ read N x
read_sum N x y lx ly b =
    let z = (y + x) % N in
    let l : z < N = mod_below (y + x) N (omega arith) in
    read_is N z (read N y +ℤ read N x) l b
    (sum_of_parts N x y z (read N x) (read N y) (is_of N x) (is_of N y) l b (mod_once (y + x) N (omega arith) (omega arith)))

-- ---- differences

difference_of_parts : (N x y z : ℕ) (X Y : ℤ) → IsOf N x X → IsOf N y Y → z < N → x < N → y < N → 2 * unsigned_abs (Y -ℤ X) < N
    → (z ≡ y + N - x) ⊎ (z + N ≡ y + N - x) → IsOf N z (Y -ℤ X)
difference_of_parts N x y z X Y (inl a) (inl c) l lx ly b (inl e) = inr (omega (arith, ints, a, c, e, lx))
difference_of_parts N x y z X Y (inl a) (inl c) l lx ly b (inr e) = inl (omega (arith, ints, a, c, e, lx))
difference_of_parts N x y z X Y (inl a) (inr c) l lx ly b (inl e) = absurd
    (omega (arith, ints, unsigned_abs-parts (Y -ℤ X), a, c, e, b, lx, ly, l))
difference_of_parts N x y z X Y (inl a) (inr c) l lx ly b (inr e) = inr (omega (arith, ints, a, c, e, lx))
difference_of_parts N x y z X Y (inr a) (inl c) l lx ly b (inl e) = inl (omega (arith, ints, a, c, e, lx))
difference_of_parts N x y z X Y (inr a) (inl c) l lx ly b (inr e) = absurd
    (omega (arith, ints, unsigned_abs-parts (Y -ℤ X), a, c, e, b, lx, ly, l))
difference_of_parts N x y z X Y (inr a) (inr c) l lx ly b (inl e) = inr (omega (arith, ints, a, c, e, lx))
difference_of_parts N x y z X Y (inr a) (inr c) l lx ly b (inr e) = inl (omega (arith, ints, a, c, e, lx))

pub read_difference : (N x y : ℕ) → x < N → y < N → 2 * unsigned_abs (read N y -ℤ read N x) < N
    → read N ((y + N - x) % N) ≡ read N y -ℤ read N x
read_difference N x y lx ly b =
    let z = (y + N - x) % N in
    let l : z < N = mod_below (y + N - x) N (omega arith) in
    read_is N z (read N y -ℤ read N x) l b
    (difference_of_parts N x y z (read N x) (read N y) (is_of N x) (is_of N y) l lx ly b
    (mod_once (y + N - x) N (omega arith) (omega arith)))

-- ---- negations

from_zero : (z : ℤ) → pos 0 -ℤ z ≡ neg_ℤ z
from_zero z = omega (arith, ints)

pub read_negation : (N x : ℕ) → x < N → 2 * unsigned_abs (neg_ℤ (read N x)) < N → read N ((N - x) % N) ≡ neg_ℤ (read N x)
read_negation N x l b =
    let zero_is : read N 0 ≡ pos 0 = read_low N 0 (omega arith) in
    let same : read N 0 -ℤ read N x ≡ neg_ℤ (read N x) = ap (λ t. t -ℤ read N x) zero_is ∙ from_zero (read N x) in
    let up : 0 + N - x ≡ N - x = omega arith in
    ap (λ t. read N (t % N)) (sym up) ∙ read_difference N x 0 l (omega arith) (subst (λ t. 2 * unsigned_abs t < N) (sym same) b) ∙ same

-- ---- comparisons

-- moved up by half of N
moved_is : (h x : ℕ) → x < 2 * h → pos ((x + 2 * h / 2) % (2 * h)) ≡ read (2 * h) x +ℤ pos h
moved_is h x l =
    let half : 2 * h / 2 ≡ h = omega arith in
    let once = mod_once (x + h) (2 * h) (omega arith) (omega arith) in
    ap (λ t. pos ((x + t) % (2 * h))) half
    ∙ ⊎_elim
    (λ (low : x < h).
    let r = read_low (2 * h) x (omega arith) in
    let m : (x + h) % (2 * h) ≡ x + h = ⊎_elim (λ e. e) (λ e. absurd (omega (arith, e, low))) once in
    omega (arith, ints, r, m))
    (λ (high : h ≤ x).
    let r = read_high (2 * h) x (omega arith) in
    let below = mod_below (x + h) (2 * h) (omega arith) in
    let m : (x + h) % (2 * h) + 2 * h ≡ x + h = ⊎_elim (λ e. absurd (omega (arith, e, high, below))) (λ e. e) once in
    omega (arith, ints, r, m))
    (cases_lt x h)

less_by : (m n h : ℕ) (X Y : ℤ) → pos m ≡ X +ℤ pos h → pos n ≡ Y +ℤ pos h → nat_lt m n ≡ int_lt X Y
less_by m n h X Y p q =
    let x : X ≡ pos m -ℤ pos h = omega (arith, ints, p) in
    let y : Y ≡ pos n -ℤ pos h = omega (arith, ints, q) in
    rw (x, y) (grind (arith, ints, nat_tests))

pub read_less : (h x y : ℕ) → x < 2 * h → y < 2 * h
    → nat_lt ((x + 2 * h / 2) % (2 * h)) ((y + 2 * h / 2) % (2 * h)) ≡ int_lt (read (2 * h) x) (read (2 * h) y)
read_less h x y lx ly =
    less_by ((x + 2 * h / 2) % (2 * h)) ((y + 2 * h / 2) % (2 * h)) h (read (2 * h) x) (read (2 * h) y) (moved_is h x lx) (moved_is h y ly)

-- different numbers of the same bytes differ
pub read_back : (N x y : ℕ) → x < N → y < N → read N x ≡ read N y → x ≡ y
read_back N x y lx ly e = by (read N x) (read N y) (is_of N x) (is_of N y) e
  where
    by : (X Y : ℤ) → IsOf N x X → IsOf N y Y → X ≡ Y → x ≡ y
    by X Y (inl a) (inl c) e = omega (arith, ints, a, c, e)
    by X Y (inl a) (inr c) e = absurd (omega (arith, ints, a, c, e, ly))
    by X Y (inr a) (inl c) e = absurd (omega (arith, ints, a, c, e, lx))
    by X Y (inr a) (inr c) e = omega (arith, ints, a, c, e)

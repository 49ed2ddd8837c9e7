-- The greatest of some numbers is one of them, and rows that have a number contain it.
use Rattle.std.proofs.Common.{◌≡◌, ◌⊎◌, inl, inr, ⊎_elim, ℕ, zero, suc, ◌<◌, ◌≤◌, ◌==◌, Bool, true, false}
use Rattle.std.proofs.Common.{List, [], ◌∷◌, length, refl, arith, get_or}
use Rattle.std.specs.Prelude.{Contains, ◌||◌}
use Rattle.std.proofs.lemmas.Bool.{eqb-true, eq-eqb, cases_lt}
use Rattle.ec_check_recursion.specs.Rows.{row_at}
use Rattle.ec_overlay.specs.Chains.{has}
use Rattle.ec_overlay.specs.Frames.{most_of}

pub most_at : (h : ℕ → ℕ) (n k : ℕ) → k < n → h k ≤ most_of h n
most_at h zero k l = absurd (omega arith)
most_at h (suc n) k l =
    ⊎_elim
    (λ (less : k < n). let r = most_at h n k less in omega (arith, r))
    (λ (other : n ≤ k). let same : k ≡ n = omega (arith, l, other) in rw same (omega arith))
    (cases_lt k n)

-- the greatest is 0 or one of them
abbrev pub IsOne : (h : ℕ → ℕ) (n : ℕ) → Type 0
IsOne h n = (most_of h n ≡ 0) ⊎ ((k : ℕ) × (k < n) × (h k ≡ most_of h n))

pub most_is : (h : ℕ → ℕ) (n : ℕ) → IsOne h n
most_is h zero = inl refl
most_is h (suc n) =
    ⊎_elim
    (λ (less : h n < most_of h n).
    ⊎_elim
    (λ (none : most_of h n ≡ 0). absurd (omega (arith, less, none)))
    (λ found. inr (found.0, omega (arith, found.1), omega (arith, less, found.2)))
    (most_is h n))
    (λ (most : most_of h n ≤ h n). inr (n, omega arith, omega (arith, most)))
    (cases_lt (h n) (most_of h n))

pub most_within : (h : ℕ → ℕ) (n m : ℕ) → ((k : ℕ) → k < n → h k ≤ m) → most_of h n ≤ m
most_within h zero m l = omega arith
most_within h (suc n) m l =
    let a = l n (omega arith) in
    let b = most_within h n m (λ k q. l k (omega (arith, q))) in
    omega (arith, a, b)

-- ---- rows

either : (a b : Bool) → b ≡ true → (a || b) ≡ true
either true b h = refl
either false b h = h

has_at : (row : List ℕ) (g k : ℕ) → k < length row → get_or row k g ≡ g → has row g ≡ true
has_at [] g k l e = absurd (omega arith)
has_at (f ∷ row) g zero l e = rw (eq-eqb f g e) refl
has_at (f ∷ row) g (suc k) l e = either (f == g) (has row g) (has_at row g k (omega (arith, l)) e)

pub has_contained : (row : List ℕ) (g : ℕ) → Contains row g → has row g ≡ true
has_contained row g c = has_at row g c.0 c.1 c.2

first_or_later : (row : List ℕ) (f g : ℕ) → (has row g ≡ true → Contains row g) → (b : Bool) → (f == g) ≡ b
    → (b || has row g) ≡ true
    → Contains (f ∷ row) g
first_or_later row f g later true e q = (0, omega arith, eqb-true f g e)
first_or_later row f g later false e q = let c = later q in (suc c.0, omega (arith, c.1), c.2)

pub contained : (row : List ℕ) (g : ℕ) → has row g ≡ true → Contains row g
contained [] g h = absurd cc
contained (f ∷ row) g h = first_or_later row f g (λ q. contained row g q) (f == g) refl h

pub row_within : (rows : List (List ℕ)) (f g : ℕ) → Contains (row_at rows f) g → f < length rows
row_within [] f g c = let l : c.0 < 0 = c.1 in absurd (omega arith)
row_within (r ∷ rows) zero g c = omega arith
row_within (r ∷ rows) (suc f) g c = let l = row_within rows f g c in omega (arith, l)

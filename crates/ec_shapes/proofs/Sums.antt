-- Sums.
use Rattle.std.proofs.Common.{◌≡◌, ℕ, ◌+◌, ◌≤◌, List, [], ◌∷◌, ◌++◌, refl, sym, arith}
use Rattle.std.specs.List.{AllByRecursion}
use Rattle.ec_shapes.specs.Shapes.{total}

pub total_same : {K : Type 0} (f g : K → ℕ) (xs : List K) → ((k : K) → f k ≡ g k) → total f xs ≡ total g xs
total_same f g [] h = refl
total_same f g (x ∷ xs) h = let a = h x in let b = total_same f g xs h in omega (arith, a, b)

pub total_most : {K : Type 0} (f g : K → ℕ) (xs : List K) → ((k : K) → f k ≤ g k) → total f xs ≤ total g xs
total_most f g [] h = omega arith
total_most f g (x ∷ xs) h = let a = h x in let b = total_most f g xs h in omega (arith, a, b)

-- the same where some fact holds of each
pub total_most_in : {K : Type 0} (P : K → Type 0) (f g : K → ℕ) (xs : List K) → ((k : K) → P k → f k ≤ g k) → AllByRecursion P xs
    → total f xs ≤ total g xs
total_most_in P f g [] h all = omega arith
total_most_in P f g (x ∷ xs) h all = let a = h x all.0 in let b = total_most_in P f g xs h all.1 in omega (arith, a, b)

pub total_sum : {K : Type 0} (f g : K → ℕ) (xs : List K) → total (λ k. f k + g k) xs ≡ total f xs + total g xs
total_sum f g [] = refl
total_sum f g (x ∷ xs) = let b = total_sum f g xs in omega (arith, b)

pub total_none : {K : Type 0} (xs : List K) → total (λ k. 0) xs ≡ 0
total_none [] = refl
total_none (x ∷ xs) = let b = total_none xs in omega (arith, b)

pub total_joined : {K : Type 0} (f : K → ℕ) (xs ys : List K) → total f (xs ++ ys) ≡ total f xs + total f ys
total_joined f [] ys = omega arith
total_joined f (x ∷ xs) ys = let b = total_joined f xs ys in omega (arith, b)

-- sums of sums
pub total_turned : {S K : Type 0} (f : S → K → ℕ) (ss : List S) (ks : List K)
    → total (λ s. total (f s) ks) ss ≡ total (λ k. total (λ s. f s k) ss) ks
total_turned f [] ks = sym (total_none ks)
total_turned f (s ∷ ss) ks =
    let b = total_turned f ss ks in
    let c = total_sum (f s) (λ k. total (λ t. f t k) ss) ks in
    omega (arith, b, c)

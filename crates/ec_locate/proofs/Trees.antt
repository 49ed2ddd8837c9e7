-- The depths of chains.
use Rattle.std.proofs.Common.{◌≡◌, ◌+◌, ◌≤◌, ℕ, zero, suc, max, List, [], ◌∷◌, length, map, replicate, add-one}
use Rattle.std.proofs.Common.{refl, ap, ◌∙◌, arith}
use Rattle.std.specs.List.{All}
use Rattle.std.specs.Prelude.{slice_index}
use Rattle.std.proofs.lemmas.List.Elements.{All-nil, All-cons}
use Rattle.ec_locate.specs.Calls.{deepest, chains}

-- the greatest of three depths
pub max_join : (b d m : ℕ) → max (max b d) m ≡ max b (max d m)
max_join b d m = omega arith

-- no depth is greater than all are
index_below : (depths : List ℕ) (n f : ℕ) → All (λ d. d ≤ n) depths → slice_index depths f ≤ n
index_below [] n f h = omega arith
index_below (d ∷ ds) n zero h = h 0 0 (omega arith)
index_below (d ∷ ds) n (suc f) h = index_below ds n f (λ k e l. h (suc k) e (omega arith))

pub deepest_below : (depths : List ℕ) (n : ℕ) (fs : List ℕ) → All (λ d. d ≤ n) depths → deepest depths fs ≤ n
deepest_below depths n [] h = omega arith
deepest_below depths n (f ∷ fs) h =
    let a = index_below depths n f h in
    let b = deepest_below depths n fs h in
    omega (arith, a, b)

all_mapped : {X : Type 0} (g : X → ℕ) (n : ℕ) (xs : List X) → ((x : X) → g x ≤ n) → All (λ d. d ≤ n) (map g xs)
all_mapped g n [] h = All-nil (λ d. d ≤ n)
all_mapped g n (x ∷ xs) h = All-cons (λ d. d ≤ n) (g x) (map g xs) (h x) (all_mapped g n xs h)

-- chains of at most n functions have at most n
pub chains_below : (n : ℕ) (rows : List (List ℕ)) → All (λ d. d ≤ n) (chains n rows)
chains_below zero rows = all_mapped (λ row. 0) 0 rows (λ row. omega arith)
chains_below (suc n) rows =
    all_mapped (λ row. 1 + deepest (chains n rows) row) (suc n) rows
    (λ row. let b = deepest_below (chains n rows) n row (chains_below n rows) in omega (arith, b))

pub no_chains : {X Y : Type 0} (g : X → Y) (xs : List X) → replicate {A = ℕ} (length xs) 0 ≡ map (λ y. 0) (map g xs)
no_chains g [] = refl
no_chains g (x ∷ xs) = ap (λ ds. 0 ∷ ds) (no_chains g xs)

-- chains with one function more
pub chains_more : (rows : List (List ℕ)) (n : ℕ) (depths new : List ℕ) → depths ≡ chains n rows
    → new ≡ map (λ row. 1 + deepest depths row) rows → new ≡ chains (n + 1) rows
chains_more rows n depths new before made =
    rw (add-one n) (made ∙ ap (λ (ds : List ℕ). map (λ (row : List ℕ). 1 + deepest ds row) rows) before)

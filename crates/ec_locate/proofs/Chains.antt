-- Chains of calls are no longer than the depth that is counted.
use Rattle.std.proofs.Common.{◌≡◌, ◌+◌, ◌<◌, ◌≤◌, ℕ, zero, suc, List, [], ◌∷◌, length, map, get_or, refl, arith}
use Rattle.std.specs.Prelude.{slice_index}
use Rattle.ec_check_recursion.specs.Rows.{row_at}
use Rattle.ec_overlay.specs.Chains.{IsChain}
use Rattle.ec_locate.specs.Calls.{deepest, chains}

pub mapped_at : (h : List ℕ → ℕ) (rows : List (List ℕ)) (f : ℕ) → f < length rows
    → slice_index (map h rows) f ≡ h (row_at rows f)
mapped_at h [] f l = absurd (omega arith)
mapped_at h (row ∷ rows) zero l = refl
mapped_at h (row ∷ rows) (suc f) l = mapped_at h rows f (omega (arith, l))

-- a function that is called is no deeper than the deepest
deepest_at : (depths fs : List ℕ) (k g : ℕ) → k < length fs → get_or fs k g ≡ g → slice_index depths g ≤ deepest depths fs
deepest_at depths [] k g l e = absurd (omega arith)
deepest_at depths (f ∷ fs) zero g l e = rw (← e) (omega arith)
deepest_at depths (f ∷ fs) (suc k) g l e =
    let rest = deepest_at depths fs k g (omega arith) e in
    omega (arith, rest)

pub chain_below : (rows : List (List ℕ)) (n f : ℕ) (gs : List ℕ) → IsChain rows (f ∷ gs) → length (f ∷ gs) ≤ n
    → length (f ∷ gs) ≤ slice_index (chains n rows) f
chain_below rows zero f gs h l = absurd (omega arith)
chain_below rows (suc n) f [] h l =
    let here = mapped_at (λ row. 1 + deepest (chains n rows) row) rows f h.0 in
    omega (arith, here)
chain_below rows (suc n) f (g ∷ gs) h l =
    let here = mapped_at (λ row. 1 + deepest (chains n rows) row) rows f h.0 in
    let called = h.1 in
    let a = deepest_at (chains n rows) (row_at rows f) called.0 g called.1 called.2 in
    let rest = chain_below rows n g gs h.2 (omega (arith, l)) in
    omega (arith, here, a, rest)

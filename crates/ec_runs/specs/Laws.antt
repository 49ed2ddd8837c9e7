-- Laws of runs.
use Rattle.std.specs.Prelude.{◌≡◌, ℕ, ◌+◌, Bool, IsTrue, List}
use Rattle.ec_runs.specs.Behaviours.{Behaviour, Ended, IsRun, Stepped, continued, steps, and_next, many, Reaches}
use Rattle.ec_runs.specs.Behaviours.{IsWithin, seen_as, KeepsOrder}

-- more steps of a step function only add
abbrev pub StepsAreRuns : (S E R F : Type 0) → Type 0
StepsAreRuns S E R F = (step : S → Stepped S E R F) (s : S) → IsRun (steps step s)

-- n + k steps are n steps, and then k more from the state after them, the events of both joined
abbrev pub StepsJoin : (S E R F : Type 0) → Type 0
StepsJoin S E R F =
    (step : S → Stepped S E R F) (n k : ℕ) (s : S)
    → steps step s (n + k) ≡ continued (λ t. steps step t k) (many step n s)

-- and so are n + k steps as one
abbrev pub ManyJoin : (S E R F : Type 0) → Type 0
ManyJoin S E R F =
    (step : S → Stepped S E R F) (n k : ℕ) (s : S) → many step (n + k) s ≡ and_next (many step k) (many step n s)

-- two ends of a run are one
abbrev pub HasOneEnd : {E R F : Type 0} → (ℕ → Behaviour E R F) → Type 0
HasOneEnd {E} {R} run =
    (n k : ℕ) (es fs : List E) (result other : R) → run n ≡ Ended es result → run k ≡ Ended fs other
    → (es ≡ fs) × (result ≡ other)

abbrev pub RunsHaveOneEnd : (E R F : Type 0) → Type 0
RunsHaveOneEnd E R F = (run : ℕ → Behaviour E R F) → IsRun run → HasOneEnd run

-- a run that reaches all that another one shows never runs ahead of it, ends only where that one ends, and fails only
-- where it does
abbrev pub WhatReachesStaysWithin : (E R F G : Type 0) → Type 0
WhatReachesStaysWithin E R F G =
    (allowed : ℕ → ℕ → Bool) (source : ℕ → Behaviour E R F) (run : ℕ → Behaviour E R G) → IsRun run
    → Reaches allowed source run → (m : ℕ) → IsWithin (source m) (run m)

-- what reaches a run that reaches another one reaches that one
abbrev pub ReachesThrough : (E R F G H : Type 0) → Type 0
ReachesThrough E R F G H =
    (first second both : ℕ → ℕ → Bool) → ((n m j : ℕ) → IsTrue (first n m) → IsTrue (second m j) → IsTrue (both n j))
    → (source : ℕ → Behaviour E R F) (between : ℕ → Behaviour E R G) (run : ℕ → Behaviour E R H) →
    Reaches first source between → Reaches second between run → Reaches both source run

-- a run stays one where its events are seen in another way, and reaches what it reached
abbrev pub SeenRunsAreRuns : (D E R F : Type 0) → Type 0
SeenRunsAreRuns D E R F =
    (f : List D → List E) → KeepsOrder f → (run : ℕ → Behaviour D R F) → IsRun run → IsRun (λ n. seen_as f (run n))

abbrev pub ReachesAsSeen : (D E R F G : Type 0) → Type 0
ReachesAsSeen D E R F G =
    (f : List D → List E) (allowed : ℕ → ℕ → Bool) (source : ℕ → Behaviour D R F) (run : ℕ → Behaviour D R G)
    → Reaches allowed source run →
    Reaches allowed (λ n. seen_as f (source n)) (λ n. seen_as f (run n))

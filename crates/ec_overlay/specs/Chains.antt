-- Chains of calls, over rows that tell for each function which ones it calls.
use Rattle.std.specs.Prelude.{ℕ, ◌+◌, ◌<◌, ◌==◌, ◌||◌, ⊤, Bool, false, List, [], ◌∷◌, length, Contains}
use Rattle.ec_check_recursion.specs.Rows.{row_at, LeadsTo}

-- no function calls itself, through others or not
abbrev pub NothingRecurs : List (List ℕ) → Type 0
NothingRecurs rows = (f : ℕ) → ¬ LeadsTo rows f f

abbrev pub CallsFirst : List (List ℕ) → ℕ → List ℕ → Type 0
CallsFirst rows f [] = ⊤
CallsFirst rows f (g ∷ gs) = Contains (row_at rows f) g

-- each function of a chain calls the next
abbrev pub IsChain : List (List ℕ) → List ℕ → Type 0
IsChain rows [] = ⊤
IsChain rows (f ∷ fs) = (f < length rows) × CallsFirst rows f fs × IsChain rows fs

-- the bytes of the functions of a chain together
abbrev pub total : (size : ℕ → ℕ) → List ℕ → ℕ
total size [] = 0
total size (f ∷ fs) = size f + total size fs

-- a row has a function
abbrev pub has : List ℕ → ℕ → Bool
has [] f = false
has (g ∷ gs) f = g == f || has gs f

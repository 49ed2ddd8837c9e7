-- The calls of all functions of a program, and which functions reach which by them.
use Rattle.std.specs.Prelude.{ℕ, List, [], map, slice_index_or}
use Rattle.ec_space.specs.Listed.{Listed}
use Rattle.std.specs.Prelude.{◌≡◌, ◌+◌, ◌<◌, ◌≤◌, ◌⊎◌, Bool, true, false, not, Contains}
use Rattle.std.specs.Prelude.{length}
use Rattle.std.specs.List.{count_by}
use Rattle.ec_core.specs.Needs.{stmt_calls}
use Rattle.ec_core.specs.Plain.{PlainProgram}

-- for each function, the numbers of those that it calls
abbrev pub plain_rows : List (Listed ℕ) → List (List ℕ)
plain_rows rows = map (λ row. row.items) rows

-- what f calls, nothing where there is no such function
abbrev pub row_at : List (List ℕ) → ℕ → List ℕ
row_at rows f = slice_index_or rows f []

-- the rows of a program
abbrev pub rows_of_program : PlainProgram → List (List ℕ)
rows_of_program p = map (λ f. stmt_calls f.body []) p.functions

-- f calls g, itself or through others
pub data LeadsTo (rows : List (List ℕ)) (g : ℕ) : ℕ → Type 0 where
  calls : (f : ℕ) → Contains (row_at rows f) g → LeadsTo rows g f
  calls_through : (f h : ℕ) → Contains (row_at rows f) h → LeadsTo rows g h → LeadsTo rows g f

-- ---- marks of functions

abbrev pub IsMarked : List Bool → ℕ → Type 0
IsMarked marks f = slice_index_or marks f false ≡ true

-- of all functions, those are marked that f reaches
pub record AreReached (rows : List (List ℕ)) (f : ℕ) (marks : List Bool) : Type 0 where
  pub sound : (g : ℕ) → IsMarked marks g → LeadsTo rows g f
  pub complete : (g : ℕ) → g < length rows → LeadsTo rows g f → IsMarked marks g

-- The functions of a row are marked, and those of them that were not wait. Each that waits and each mark was there, or
-- is new by the row
pub record AreNoted (row : List ℕ) (marks new : List Bool) (waiting more : List ℕ) : Type 0 where
  pub count : length new ≡ length marks
  pub kept : (f : ℕ) → IsMarked marks f → IsMarked new f
  pub all : (f : ℕ) → Contains row f → f < length marks → IsMarked new f
  pub only : (f : ℕ) → IsMarked new f → IsMarked marks f ⊎ Contains row f
  pub wait : (f : ℕ) → IsMarked new f → IsMarked marks f ⊎ Contains more f
  pub stay : (f : ℕ) → Contains waiting f → Contains more f
  pub come : (f : ℕ) → Contains more f → Contains waiting f ⊎ IsMarked new f
  pub fewer : count_by not new + length more ≤ count_by not marks + length waiting

-- where a search from f stands: the functions that f reaches and that were found are marked, and what those call is
-- marked too, but for those that wait
pub record IsSearch (rows : List (List ℕ)) (f : ℕ) (marks : List Bool) (waiting : List ℕ) : Type 0 where
  pub count : length marks ≡ length rows
  pub sound : (g : ℕ) → IsMarked marks g → LeadsTo rows g f
  pub own : (g : ℕ) → Contains (row_at rows f) g → g < length rows → IsMarked marks g
  pub held : (h : ℕ) → Contains waiting h → IsMarked marks h
  pub closed : (h : ℕ) → IsMarked marks h
      → Contains waiting h ⊎ ((g : ℕ) → Contains (row_at rows h) g → g < length rows → IsMarked marks g)

-- f is the first that leads to itself
pub record IsFirst (rows : List (List ℕ)) (f : ℕ) : Type 0 where
  pub within : f < length rows
  pub leads : LeadsTo rows f f
  pub first : (k : ℕ) → k < f → ¬ LeadsTo rows k k

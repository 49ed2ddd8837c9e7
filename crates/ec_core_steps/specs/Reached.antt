-- Marks of the functions that main reaches.
use Rattle.std.specs.Prelude.{◌≡◌, ◌+◌, ◌<◌, ◌≤◌, ◌⊎◌, ℕ, Bool}
use Rattle.std.specs.Prelude.{true, false, not, if◌then◌else◌, List, Contains, length}
use Rattle.std.specs.Prelude.{Option, Some, None}
use Rattle.std.specs.Prelude.{slice_index_or}
use Rattle.std.specs.List.{count_by}
use Rattle.ec_core.specs.Plain.{PlainProgram}
use Rattle.ec_check_recursion.specs.Rows.{IsMarked, row_at, rows_of_program}
use Rattle.ec_core_steps.specs.declared.uncounted.Site.{Site}
use Rattle.ec_core_steps.specs.Laws.{IsReached, comes_before, first_site, uncounted_in}

-- all functions that are marked are main, or main reaches them
abbrev pub AreReached : PlainProgram → List Bool → Type 0
AreReached p marks = (g : ℕ) → IsMarked marks g → IsReached p g

-- of all functions, those are marked that main reaches, and main
pub record MarkReached (p : PlainProgram) (marks : List Bool) : Type 0 where
  pub count : length marks ≡ length p.functions
  pub sound : AreReached p marks
  pub complete : (g : ℕ) → g < length p.functions → IsReached p g → IsMarked marks g

-- the functions of a row are marked beside others; `grown`: one of them was not
pub record AreMarked (row : List ℕ) (marks new : List Bool) (grown : Bool) : Type 0 where
  pub count : length new ≡ length marks
  pub kept : (f : ℕ) → IsMarked marks f → IsMarked new f
  pub all : (f : ℕ) → Contains row f → f < length marks → IsMarked new f
  pub only : (f : ℕ) → IsMarked new f → IsMarked marks f ⊎ Contains row f
  pub fewer : count_by not new + (if grown then 1 else 0) ≤ count_by not marks
  pub still : grown ≡ false → new ≡ marks

-- what a function calls is marked beside others, where the function is marked; `grown`: one of these was not
pub record IsSpreadFrom (f : ℕ) (row : List ℕ) (marks new : List Bool) (grown : Bool) : Type 0 where
  pub count : length new ≡ length marks
  pub kept : (g : ℕ) → IsMarked marks g → IsMarked new g
  pub all : IsMarked marks f → (g : ℕ) → Contains row g → g < length marks → IsMarked new g
  pub only : (g : ℕ) → IsMarked new g → IsMarked marks g ⊎ (IsMarked marks f × Contains row g)
  pub fewer : count_by not new + (if grown then 1 else 0) ≤ count_by not marks
  pub still : grown ≡ false → new ≡ marks

-- what the first functions call is marked beside others, as many as `most`; `grown`: one of these was not
pub record IsSpread (rows : List (List ℕ)) (most : ℕ) (marks new : List Bool) (grown : Bool) : Type 0 where
  pub count : length new ≡ length marks
  pub kept : (f : ℕ) → IsMarked marks f → IsMarked new f
  pub sound : (p : PlainProgram) → rows ≡ rows_of_program p → AreReached p marks → AreReached p new
  pub fewer : count_by not new + (if grown then 1 else 0) ≤ count_by not marks
  pub closed : grown ≡ false → (f g : ℕ) → f < most → IsMarked new f → Contains (row_at rows f) g → g < length new
      → IsMarked new g

-- all that marked functions reach is marked beside them
pub record IsClosed (rows : List (List ℕ)) (marks new : List Bool) : Type 0 where
  pub count : length new ≡ length marks
  pub kept : (f : ℕ) → IsMarked marks f → IsMarked new f
  pub sound : (p : PlainProgram) → rows ≡ rows_of_program p → AreReached p marks → AreReached p new
  pub closed : (f g : ℕ) → IsMarked new f → Contains (row_at rows f) g → g < length new → IsMarked new g

-- ---- loops that are not counted

abbrev pub IsNoLater : Option Site → Site → Type 0
IsNoLater None y = ⊥
IsNoLater (Some x) y = comes_before y x ≡ false

-- the first loop so far, or that of one more function where it is marked
abbrev pub taken : PlainProgram → List Bool → Option Site → ℕ → Option Site
taken p marks first f = if slice_index_or marks f false then first_site first (uncounted_in p f) else first

-- of the functions below a number that are marked, the first loop that is not counted
pub record IsFirstOf (p : PlainProgram) (marks : List Bool) (most : ℕ) (r : Option Site) : Type 0 where
  pub found : (x : Site) → r ≡ Some x → (g : ℕ) × (IsMarked marks g × (uncounted_in p g ≡ Some x))
  pub first : (g : ℕ) (y : Site) → g < most → IsMarked marks g → uncounted_in p g ≡ Some y → IsNoLater r y

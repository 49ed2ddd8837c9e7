-- Laws of programs whose loops are counted.
use Rattle.std.specs.Prelude.{◌≡◌, ◌≢◌, ◌≤◌, ◌⊎◌, ℕ, nat_lt, ◌==◌}
use Rattle.std.specs.Prelude.{◌&&◌, ◌||◌, Bool, false, if◌then◌else◌, Option, Some, None}
use Rattle.std.specs.Prelude.{option_and_then, slice_get}
use Rattle.ec_iohw.specs.declared.table.IoTable.{IoTable}
use Rattle.ec_core.specs.Meaning.{run, work}
use Rattle.ec_core.specs.Plain.{PlainStmt, statement, PlainKind, empty, evaluate, block, declare, branch, while_loop}
use Rattle.ec_core.specs.Plain.{do_loop, for_loop, break_loop, continue_loop, return_value, OptionPlainStmt, no_stmt}
use Rattle.ec_core.specs.Plain.{a_stmt, PlainStmts, last_stmt, next_stmt, PlainFunction, PlainProgram}
use Rattle.ec_core.specs.PortTable.{plain_table}
use Rattle.ec_core.specs.State.{Inputs, State, more}
use Rattle.ec_core.specs.Valid.{Valid, Reaches}
use Rattle.ec_core_steps.specs.declared.uncounted.Site.{Site}
use Rattle.ec_core_steps.specs.Counted.{turns_of}
use Rattle.ec_core_steps.specs.Work.{max_work}

-- ---- loops that are not counted

-- where a statement stands, before another: by its unit, and by the index of its first token there
abbrev pub comes_before : Site → Site → Bool
comes_before x y = nat_lt x.unit y.unit || (x.unit == y.unit && nat_lt x.at y.at)

-- the first of two
abbrev pub first_of : Site → Site → Site
first_of x y = if comes_before y x then y else x

abbrev pub first_site : Option Site → Option Site → Option Site
first_site None y = y
first_site (Some x) None = Some x
first_site (Some x) (Some y) = Some (first_of x y)

-- a loop, where it is not counted
abbrev pub unless_counted : Option ℕ → Site → Option Site
unless_counted None x = Some x
unless_counted (Some turns) x = None

-- the first loop of a statement that is not counted, by unit and token
module _ (p : PlainProgram) (f : ℕ) (whole : PlainStmt) where
  abbrev mutual
    pub uncounted : PlainStmt → Option Site
    uncounted (statement unit at kind) = kind_uncounted (record { unit = unit; at = at }) kind

    pub kind_uncounted : Site → PlainKind → Option Site
    kind_uncounted x empty = None
    kind_uncounted x (evaluate e) = None
    kind_uncounted x (block ss) = stmts_uncounted ss
    kind_uncounted x (declare o values) = None
    kind_uncounted x (branch c a b) = first_site (uncounted a) (option_uncounted b)
    kind_uncounted x (while_loop c body) = first_site (Some x) (uncounted body)
    kind_uncounted x (do_loop body c) = first_site (Some x) (uncounted body)
    kind_uncounted x (for_loop first c last body) =
        first_site (unless_counted (turns_of p f whole first c last body) x)
        (first_site (option_uncounted first) (uncounted body))
    kind_uncounted x break_loop = None
    kind_uncounted x continue_loop = None
    kind_uncounted x (return_value e) = None

    pub option_uncounted : OptionPlainStmt → Option Site
    option_uncounted no_stmt = None
    option_uncounted (a_stmt s) = uncounted s

    pub stmts_uncounted : PlainStmts → Option Site
    stmts_uncounted last_stmt = None
    stmts_uncounted (next_stmt s ss) = first_site (uncounted s) (stmts_uncounted ss)

-- main, and what it calls, itself or through others
abbrev pub IsReached : PlainProgram → ℕ → Type 0
IsReached p g = (g ≡ p.main) ⊎ Reaches p g p.main

abbrev pub LoopsAreCounted : PlainProgram → Type 0
LoopsAreCounted p =
    (g : ℕ) (function : PlainFunction) → IsReached p g → slice_get p.functions g ≡ Some function
    → uncounted p g function.body function.body ≡ None

-- the first loop of the function with a number that is not counted
abbrev pub uncounted_in : PlainProgram → ℕ → Option Site
uncounted_in p g =
    option_and_then (λ function. uncounted p g function.body function.body) (slice_get p.functions g)

-- the first loop of a function that main reaches, of those of this function that are not counted
pub record HasUncounted (p : PlainProgram) (x : Site) : Type 0 where
  pub function : ℕ
  pub reached : IsReached p function
  pub first : uncounted_in p function ≡ Some x

-- the first loop of all functions that main reaches, of those that are not counted
pub record IsFirstUncounted (p : PlainProgram) (x : Site) : Type 0 where
  pub has : HasUncounted p x
  pub first : (y : Site) → HasUncounted p y → comes_before y x ≡ false

-- ---- the law

-- Where all loops of the functions that main reaches are counted, no run does more work, and none is out of 65,536
-- turns
pub record IsBounded (p : PlainProgram) (io : IoTable) (inputs : Inputs) : Type 0 where
  pub work : (n : ℕ) → work p (plain_table io) inputs n ≤ max_work p (plain_table io)
  pub ends : (n : ℕ) (s : State) → 65_536 ≤ n → run p (plain_table io) inputs n ≢ more s

abbrev pub CountedProgramsAreBounded : Type 0
CountedProgramsAreBounded =
    (p : PlainProgram) (io : IoTable) (inputs : Inputs) → Valid p io → LoopsAreCounted p → IsBounded p io inputs

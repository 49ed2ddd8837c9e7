-- Laws of the meaning: what a run does to its events and its work, and on what it depends.
use Rattle.std.specs.Prelude.{Bool, Some, ◌<◌, ◌*◌, drop, slice_index, ◌≡◌, ◌≢◌, ⊤, true, ℕ, ◌≤◌, List, IsTrue}
use Rattle.std.specs.Prelude.{IsSomeAnd, slice_get}
use Rattle.std.specs.List.{AllByRecursion}
use Rattle.ec_space.specs.Spaces.{holds}
use Rattle.ec_runs.specs.Behaviours.{BeginWith, IsRun}
use Rattle.ec_core.specs.declared.values.Value.{Value}
use Rattle.ec_core.specs.Accesses.{Access, recorded, leaf_of, read, stored, write, begun, ended, frame_ended}
use Rattle.ec_core.specs.Expressions.{value_of, place_of, values_of}
use Rattle.ec_core.specs.Meaning.{setting, initial_state, run, source, state_of, work}
use Rattle.ec_core.specs.Operators.{same_type}
use Rattle.ec_core.specs.Plain.{PlainType, PlainExpr, PlainPlace, PlainExprs, PlainStmt, OptionPlainStmt, register}
use Rattle.ec_core.specs.Plain.{PlainProgram}
use Rattle.ec_core.specs.PortAccesses.{next_byte, byte_read}
use Rattle.ec_core.specs.PortTable.{PlainTable}
use Rattle.ec_core.specs.State.{Inputs, Setting, Event, In, Out, Read, Write, told, reads_of, State, with_event, worked}
use Rattle.ec_core.specs.State.{with_object, with_group, with_choice, Outcome, more}
use Rattle.ec_core.specs.Statements.{effect_of, first_effect, calls_within}
use Rattle.ec_core.specs.Valid.{IsAddressable}
use Rattle.ec_core.specs.Words.{loop_words}

-- ---- the steps of a run

-- an access that can be made in a state: the object is live there, and its home is in the space of the access
pub record IsMade (program : PlainProgram) (s : State) (a : Access) : Type 0 where
  pub declared : slice_get program.objects a.object ≡ Some a.declared
  pub state : slice_get s.objects a.object ≡ Some a.state
  pub live : IsTrue a.state.live
  pub home : IsTrue (holds a.space a.declared.home)

-- From one state to the next a run takes up work, reads the next byte of a port or writes one, acquires or releases a
-- group, binds a dynamic group, reads or writes a leaf by an access that can be made, begins a new instance of an object, or ends one, or
-- those of a function
pub data Step (w : Setting) (s t : State) : Type 0 where
  takes_work : (words : ℕ) → t ≡ worked words s → Step w s t
  reads_port : (port : ℕ) → t ≡ byte_read w.inputs port s → Step w s t
  writes_port : (port byte : ℕ) → t ≡ with_event (Out port byte) s → Step w s t
  changes_group : (g : ℕ) (acquired : Bool) → t ≡ with_group g acquired s → Step w s t
  binds_group : (d choice : ℕ) → t ≡ with_choice d choice s → Step w s t
  reads_leaf : (a : Access) (v : Value) → IsMade w.program s a → leaf_of a.state a.leaf ≡ Some v
      → t ≡ recorded a.declared.storage (Read a.object a.leaf a.space (told v)) s → Step w s t
  writes_leaf : (a : Access) (v : Value) → IsMade w.program s a → t ≡ stored a v s → Step w s t
  begins_object : (o : ℕ) → t ≡ begun w.program o s → Step w s t
  ends_object : (o : ℕ) → t ≡ with_object o ended s → Step w s t
  ends_frame : (f : ℕ) → t ≡ frame_ended w.program f s → Step w s t

-- a state leads to another by steps
pub data Leads (w : Setting) (s : State) : State → Type 0 where
  here : (t : State) → s ≡ t → Leads w s t
  onward : (t u : State) → Leads w s t → Step w t u → Leads w s u

-- a run leads from the initial state to that of its outcome
abbrev pub RunsBySteps : Type 0
RunsBySteps =
    (program : PlainProgram) (table : PlainTable) (inputs : Inputs) (n : ℕ)
    → Leads (setting program table inputs) (initial_state program table) (state_of (run program table inputs n))

-- the home of each accessed object is in the space of the access, and the object is no named register
abbrev pub IsAtHome : PlainProgram → Event → Type 0
IsAtHome program (In port byte) = ⊤
IsAtHome program (Out port byte) = ⊤
IsAtHome program (Read o k space v) =
    IsSomeAnd (slice_get program.objects o) (λ x. IsTrue (holds space x.home) × IsAddressable x.storage)
IsAtHome program (Write o k space v) =
    IsSomeAnd (slice_get program.objects o) (λ x. IsTrue (holds space x.home) × IsAddressable x.storage)

abbrev pub EventsAreAtHome : Type 0
EventsAreAtHome =
    (program : PlainProgram) (table : PlainTable) (inputs : Inputs) (n : ℕ)
    → AllByRecursion (IsAtHome program) (state_of (run program table inputs n)).events

-- a read and a write of a named register are no events
pub record IsSilent (program : PlainProgram) (a : Access) (s : State) : Type 0 where
  pub read : (state_of (read program (Some a) s)).events ≡ s.events
  pub write : (v : Value) → (state_of (write (Some a) v s)).events ≡ s.events

abbrev pub RegistersAreSilent : Type 0
RegistersAreSilent =
    (program : PlainProgram) (a : Access) (s : State) (first : ℕ) → a.declared.storage ≡ register first
    → IsSilent program a s

-- ---- parts of a run

-- A part of a run: steps lead from the state before it to that of its outcome, whose events begin with those before,
-- and whose work is no less
pub record IsLater {A : Type 0} (w : Setting) (s : State) (o : Outcome A) : Type 0 where
  pub steps : Leads w s (state_of o)
  pub events : BeginWith s.events (state_of o).events
  pub work : s.work ≤ (state_of o).work

-- for at most n turns of each execution of a loop, and calls that nest at most so deep
pub record HasLaterParts (w : Setting) : Type 0 where
  pub values : (n depth : ℕ) (e : PlainExpr) (s : State) → IsLater w s (value_of w (calls_within w n depth) e s)
  pub places : (n depth : ℕ) (p : PlainPlace) (s : State) → IsLater w s (place_of w (calls_within w n depth) p s)
  pub arguments : (n depth : ℕ) (es : PlainExprs) (s : State) → IsLater w s (values_of w (calls_within w n depth) es s)
  pub statements : (n depth : ℕ) (a : PlainStmt) (s : State) → IsLater w s (effect_of w (calls_within w n depth) n a s)
  pub first_parts : (n depth : ℕ) (a : OptionPlainStmt) (s : State)
      → IsLater w s (first_effect w (calls_within w n depth) n a s)
  pub calls : (n depth f : ℕ) (xs : List Value) (s : State) → IsLater w s (calls_within w n depth f xs s)

-- what a part of a run does is added to the events and the work before it
abbrev pub PartsOnlyAdd : Type 0
PartsOnlyAdd =
    (program : PlainProgram) (table : PlainTable) (inputs : Inputs) → HasLaterParts (setting program table inputs)

-- ---- more turns

-- more turns only add to the events of a run, and leave one as it is that ended or met an undefined point
abbrev pub MoreTurnsOnlyAdd : Type 0
MoreTurnsOnlyAdd = (program : PlainProgram) (table : PlainTable) (inputs : Inputs) → IsRun (source program table inputs)

abbrev pub WorkNeverFalls : Type 0
WorkNeverFalls =
    (program : PlainProgram) (table : PlainTable) (inputs : Inputs) (n k : ℕ) → n ≤ k
    → work program table inputs n ≤ work program table inputs k

-- a run in which a loop is out of n turns has done the work of n turns
abbrev pub TurnsAreWork : Type 0
TurnsAreWork =
    (program : PlainProgram) (table : PlainTable) (inputs : Inputs) (n : ℕ) (s : State)
    → run program table inputs n ≡ more s → loop_words * n ≤ s.work

-- ---- inputs

-- two inputs give the same bytes as far as some events read
abbrev pub AgreeOn : List Event → Inputs → Inputs → Type 0
AgreeOn events a b = (port k : ℕ) → k < reads_of port events → slice_index (a port) k ≡ slice_index (b port) k

-- a run depends on the bytes that it reads alone
abbrev pub DependsOnBytesRead : Type 0
DependsOnBytesRead =
    (program : PlainProgram) (table : PlainTable) (a b : Inputs) (n : ℕ)
    → AgreeOn (state_of (run program table a n)).events a b → run program table a n ≡ run program table b n

-- what a port address still gives after the events of a state
abbrev pub left_of : Inputs → ℕ → State → List ℕ
left_of inputs port s = drop (reads_of port s.events) (inputs port)

-- the next byte of a port is the first of those left, and 0 where none is left; its read takes it from them, and leaves
-- those of other ports
pub record IsTaken (inputs : Inputs) (port : ℕ) (s : State) : Type 0 where
  pub first : next_byte inputs port s ≡ slice_index (left_of inputs port s) 0
  pub rest : left_of inputs port (byte_read inputs port s) ≡ drop 1 (left_of inputs port s)
  pub others : (other : ℕ) → other ≢ port → left_of inputs other (byte_read inputs port s) ≡ left_of inputs other s

abbrev pub BytesAreTakenInOrder : Type 0
BytesAreTakenInOrder = (inputs : Inputs) (port : ℕ) (s : State) → IsTaken inputs port s

-- ---- types

-- `same_type` tells whether two types are equal
pub record TypesAreTold : Type 0 where
  pub same : (a b : PlainType) → same_type a b ≡ true → a ≡ b
  pub itself : (a : PlainType) → same_type a a ≡ true

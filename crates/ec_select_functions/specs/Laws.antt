-- The laws of the code of operations.
use Rattle.std.specs.Prelude.{◌≡◌, ℕ, ◌+◌, ◌*◌, ◌%◌, ◌<◌, ◌≤◌, ◌==◌, nat_le, Bool, true, false, List, [], ◌∷◌, ⊤, Some}
use Rattle.std.specs.Prelude.{slice_get, ℤ, Contains, IsSomeAnd, IsTrue, length, Option}
use Rattle.ec_space.specs.declared.Core.{Core}
use Rattle.ec_space.specs.declared.space.Bank.TheVariants.{Data as DataBank}
use Rattle.ec_runs.specs.Behaviours.{Behaviour, Running, Ended, Failed, Reaches, IsWithin, seen_as}
use Rattle.ec_isa.specs.declared.instructions.Instr.TheVariants.{Break}
use Rattle.ec_avr.specs.declared.machine.Access.{Access}
use Rattle.ec_avr.specs.Machine.{State}
use Rattle.ec_asm.specs.View.{View}
use Rattle.ec_asm.specs.Change.{Env, Stacked, sp}
use Rattle.ec_asm.specs.Items.{HasAt}
use Rattle.ec_asm.specs.PieceLaws.{HoldsNumbers}
use Rattle.ec_asm.specs.Run.{Running as AtWord, fetch, run, is_safe, back_at}
use Rattle.ec_asm.specs.Shows.{Shows, Fits}
use Rattle.ec_asm.specs.Behaves.{noted_run}
use Rattle.ec_core.specs.declared.values.Undefined.{Undefined}
use Rattle.ec_core.specs.declared.values.Value.{Value}
use Rattle.ec_core.specs.Accesses.{leaf_of}
use Rattle.ec_core.specs.Plain.{PlainProgram}
use Rattle.ec_core.specs.State.{Inputs, ObjectState}
use Rattle.ec_ir.specs.Meaning.{steps_of, start_state}
use Rattle.ec_ir.specs.Operations.{PlainIr, binary_op, PlainIrFunction, PlainIrProgram, data_of}
use Rattle.ec_ir.specs.Valid.{ValidIr, CallsTo, called_in}
use Rattle.ec_select_operations.specs.declared.homes.Homes.{Homes}
use Rattle.ec_select_operations.specs.Code.{Linkage, function_code, family_of, is_on_integers}
use Rattle.ec_select_functions.specs.Covered.{AreCovered}
use Rattle.ec_select_operations.specs.Homes.{home}
use Rattle.ec_select_functions.specs.Kept.{meaning_on}
use Rattle.ec_select_operations.specs.Needs.{Need, IsLive}
use Rattle.ec_select_operations.specs.Pointers.{has_tables}
use Rattle.ec_select_operations.specs.Routines.{HasRoutineOf}
use Rattle.ec_select_operations.specs.Places.{ObjectLeaf, CanBeLiveTogether, Apart, Layout}
use Rattle.ec_select_functions.specs.Relation.{accesses, HoldsLeaf}
use Rattle.ec_select_functions.specs.Standing.{home_address, ScratchStands, ObjectsStand, TablesStand, PageStands, WorkStands}

-- ---- where code and data stand

-- How the code of a function is made: the homes of its temporaries, the label of items for each of its own, what is needed
-- there, and the label of the routine, if there is one, that an operation calls
pub record Made : Type 0 where
  pub homes : Homes
  pub label_of : ℕ → ℕ
  pub labels : ℕ → Need
  pub routine_of : PlainIr → Option ℕ

abbrev pub linkage_of : Core → PlainIrProgram → (entry_of : ℕ → ℕ) → (f slots : ℕ) → Made → Linkage
linkage_of core p entry_of f slots made = record {
  core = core;
  label_of = made.label_of;
  entry_of = entry_of;
  homes = made.homes;
  slots = slots;
  is_main = f == p.main;
  routine_of = made.routine_of;
}

-- an operation that leaves its result as a number: an operator whose code is that on integers may tell it by a flag alone
abbrev pub CanCall : PlainIr → Type 0
CanCall (binary_op op ty mode to a aty b bty) = is_on_integers (family_of op) mode ty aty bty ≡ false
CanCall i = ⊤

-- Its operations are all covered, the table of labels tells what is needed, the scratch memory stands apart from the
-- objects, the code for the core stands between two words, and the routines that it calls stand and can be called
pub record IsSelected (p : PlainIrProgram) (e : Env) (place : ℕ → ℕ) (entry_of results : ℕ → ℕ) (f : ℕ)
    (g : PlainIrFunction) (made : Made) (scratch : ℕ) : Type 0 where
  pub pc : ℕ
  pub end : ℕ
  pub covered : AreCovered (data_of p) results f (called_in g.code) g.slots g.code
  pub live : IsLive (has_tables (data_of p).objects) made.labels g.code
  pub scratch_stands : ScratchStands e g.slots made.homes scratch
  pub objects_stand : ObjectsStand p e g.slots scratch place
  pub stands : HasAt e (function_code (data_of p) (linkage_of e.core p entry_of f g.slots made) f made.labels g.code) pc end
  pub routines : (i : PlainIr) (l : ℕ) → Contains g.code i → made.routine_of i ≡ Some l → HasRoutineOf e l i
  pub callers : (i : PlainIr) (l : ℕ) → Contains g.code i → made.routine_of i ≡ Some l → CanCall i

-- All functions are selected, each with its scratch memory at an address. That of a function stands apart from that of
-- any other which it calls, itself or through others, and from the work bytes and so many cells. `results` are the bytes of
-- the results, and `entry_of` are the labels at which functions begin. The objects of the flash bank stand there with their
-- initial values, and RAMPZ where the core has it
pub record AreSelected (cells : ℕ) (p : PlainIrProgram) (e : Env) (place : ℕ → ℕ) (entry_of : ℕ → ℕ) : Type 0 where
  pub results : ℕ → ℕ
  pub made : ℕ → Made
  pub scratch : ℕ → ℕ
  pub main_result : results p.main ≡ 2
  pub each : (f : ℕ) (g : PlainIrFunction) → slice_get p.functions f ≡ Some g
      → IsSelected p e place entry_of results f g (made f) (scratch f)
  pub apart : (f h : ℕ) (a b : PlainIrFunction) → CallsTo p h f → slice_get p.functions f ≡ Some a
      → slice_get p.functions h ≡ Some b → Apart (scratch f) (16 * a.slots) (scratch h) (16 * b.slots)
  pub tables : TablesStand (data_of p) e place
  pub page : PageStands e
  pub work : ℕ
  pub work_stands : WorkStands cells (data_of p) e place work
  pub work_apart : (f : ℕ) (g : PlainIrFunction) → slice_get p.functions f ≡ Some g
      → Apart (scratch f) (16 * g.slots) work (64 + cells)

-- ---- the stack

-- a function calls the first one of a list, and each of the list the next
abbrev pub CallsOn : PlainIrProgram → ℕ → List ℕ → Type 0
CallsOn p f [] = ⊤
CallsOn p f (g ∷ gs) =
    IsSomeAnd (slice_get p.functions f) (λ a. Contains (called_in a.code) g) × CallsOn p g gs

-- The machine stands where main begins, with the address of a BREAK on the stack. From an address up to this one all
-- bytes are the stack's: below it two for each function that is called on any way from main, and 16 more
pub record IsEntered (p : PlainIrProgram) (e : Env) (low entry pc : ℕ) (v : View) : Type 0 where
  pub at : pc ≡ e.word_of entry
  pub word : e.word_of entry < 65536
  pub stop : fetch e (back_at v % 65536) ≡ Some Break
  pub high : 256 ≤ low
  pub top : sp v + 2 < 65536
  pub stacked : (k : ℕ) → low ≤ k → k ≤ sp v + 2 → e.kind k ≡ Stacked
  pub room : (fs : List ℕ) → CallsOn p p.main fs → low + 2 * length fs + 16 ≤ sp v + 1

-- ---- the start

-- the view shows the initial values of the objects, and nothing has been seen
pub record HoldsStart (p : PlainProgram) (place : ℕ → ℕ) (v : View) : Type 0 where
  pub leaves : (l : ObjectLeaf p DataBank) (x : ObjectState) (u : Value)
      → slice_get (start_state p).objects l.object ≡ Some x → leaf_of x l.number ≡ Some u
      → HoldsLeaf p place v.at (place l.object + l.at) l.bytes u
  pub bytes : HoldsNumbers v
  pub seen : v.seen ≡ []
  pub safe : v.safe ≡ true

-- the steps for n operations that count: at most what they may take, and one for BREAK
abbrev pub within_steps : PlainIrProgram → Inputs → ℕ → ℕ → Bool
within_steps p inputs n m = nat_le m (steps_of p inputs n + 1)

-- what is seen of the operations on a machine, the accesses of objects as those of their bytes
abbrev pub seen_meaning : Env → PlainIrProgram → (ℕ → ℕ) → Inputs → ℕ → Behaviour Access ℤ Undefined
seen_meaning e p place inputs n = seen_as (accesses (data_of p) place) (meaning_on e p inputs n)

-- a test holds where a run has a meaning
abbrev pub HoldsUnlessFailed : {E R F : Type 0} → Behaviour E R F → Bool → Type 0
HoldsUnlessFailed (Running es) b = IsTrue b
HoldsUnlessFailed (Ended es result) b = IsTrue b
HoldsUnlessFailed (Failed reason) b = ⊤

-- ---- both directions

-- what a machine shows that stands where main begins, with the objects' initial values in its memory: all that the
-- operations do, in at most the steps that they may take, and never more. No access is one that is barred
pub record ShowsOperations (p : PlainIrProgram) (place : ℕ → ℕ) (e : Env) (v : View) (s : State)
    (inputs : Inputs) : Type 0 where
  pub reaches : Reaches (within_steps p inputs) (seen_meaning e p place inputs) (noted_run e v.inputs s)
  pub within : (m : ℕ) → IsWithin (seen_meaning e p place inputs m) (noted_run e v.inputs s m)
  pub safe : (m : ℕ) → HoldsUnlessFailed (meaning_on e p inputs m) (is_safe (run e m (AtWord s.pc v)))

abbrev pub CodeFollowsOperations : Type 0
CodeFollowsOperations =
    (cells : ℕ) (p : PlainIrProgram) (place entry_of : ℕ → ℕ) (e : Env) (size low : ℕ) (s : State) (v : View) (inputs : Inputs)
    → ValidIr cells p → Fits e size → Shows e size s.core s.mem v → ((port : ℕ) → v.inputs port ≡ inputs port)
    → HoldsStart (data_of p) place v → AreSelected cells p e place entry_of
    → IsEntered p e low (entry_of p.main) s.pc v → ShowsOperations p place e v s inputs

-- ---- homes

-- in a valid program the homes of temporaries are a layout, wherever scratch memory stands apart from objects, and these
-- from one another where they can be live together
abbrev pub HomesAreLaidOut : Type 0
HomesAreLaidOut =
    (cells : ℕ) (p : PlainIrProgram) (e : Env) (slots : ℕ) (h : Homes) (scratch : ℕ) (place : ℕ → ℕ) → ValidIr cells p
    → ScratchStands e slots h scratch → ObjectsStand p e slots scratch place
    → Layout (data_of p) (CanBeLiveTogether p) e slots (home h) (home_address h scratch) place

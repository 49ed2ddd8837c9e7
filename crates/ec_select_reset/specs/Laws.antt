-- What a machine shows that begins at the startup code of a program.
use Rattle.std.specs.Prelude.{◌≡◌, ℕ, ◌+◌, ◌*◌, ◌≤◌, true, List, [], ◌∷◌, ◌++◌, All, Some, slice_get, length}
use Rattle.std.specs.List.{AllPairs}
use Rattle.ec_space.specs.declared.space.Bank.TheVariants.{Data as DataBank}
use Rattle.ec_runs.specs.Behaviours.{Reaches, IsWithin}
use Rattle.ec_avr.specs.declared.machine.Access.{Access}
use Rattle.ec_avr.specs.declared.machine.Access.TheVariants.{Silent, Stack}
use Rattle.ec_avr.specs.Machine.{State, Running, machine}
use Rattle.ec_avr.specs.Runs.{preceded_by}
use Rattle.ec_asm.specs.View.{View}
use Rattle.ec_asm.specs.Change.{Env, Stacked}
use Rattle.ec_asm.specs.Items.{HasAt}
use Rattle.ec_asm.specs.Run.{Running as AtWord, run, is_safe}
use Rattle.ec_asm.specs.Shows.{Shows, Fits}
use Rattle.ec_asm.specs.Behaves.{noted_run}
use Rattle.ec_core.specs.declared.values.Value.{Value}
use Rattle.ec_core.specs.Accesses.{leaf_of}
use Rattle.ec_core.specs.Plain.{PlainProgram}
use Rattle.ec_core.specs.State.{Inputs, ObjectState}
use Rattle.ec_ir.specs.Meaning.{start_state}
use Rattle.ec_ir.specs.Operations.{PlainIrProgram, data_of}
use Rattle.ec_ir.specs.Valid.{ValidIr}
use Rattle.ec_select_functions.specs.Kept.{meaning_on}
use Rattle.ec_select_functions.specs.Laws.{AreSelected, CallsOn, within_steps, seen_meaning, HoldsUnlessFailed}
use Rattle.ec_select_operations.specs.Places.{ObjectLeaf}
use Rattle.ec_select_functions.specs.Relation.{HoldsLeaf}
use Rattle.ec_select_startup.specs.declared.spans.Span.{Span}
use Rattle.ec_select_startup.specs.Laws.{CanBeSet, IsBeside, IsSet, HasStack, all_accesses, most_steps}
use Rattle.ec_select_startup.specs.Startup.{startup_code}

-- the leaves of the objects of the data bank have their initial values
abbrev pub HasInitials : PlainProgram → (ℕ → ℕ) → View → Type 0
HasInitials p place v =
    (l : ObjectLeaf p DataBank) (x : ObjectState) (u : Value) → slice_get (start_state p).objects l.object ≡ Some x
    → leaf_of x l.number ≡ Some u → HoldsLeaf p place v.at (place l.object + l.at) l.bytes u

-- The startup code stands from a word on, with the label of main. The bytes of all spans can be set, and once they are
-- the objects have their initial values. From an address on up to the last byte of the stack all bytes are the stack's:
-- two for main and for each function that is called on any way from it, and 16 more
pub record CanStart (p : PlainIrProgram) (e : Env) (place entry_of : ℕ → ℕ) (spans : List Span)
    (low pc : ℕ) : Type 0 where
  pub end : ℕ
  pub stands : HasAt e (startup_code spans (entry_of p.main)) pc end
  pub flash : length e.flash ≤ 131_072
  pub can_be_set : All (CanBeSet e) spans
  pub beside : AllPairs (IsBeside e) spans
  pub initials : (v : View) → All (IsSet e v) spans → HasInitials (data_of p) place v
  pub pointer : HasStack e
  pub high : 256 ≤ low
  pub stacked : (k : ℕ) → low ≤ k → k ≤ e.address_of 1281 0 → e.kind k ≡ Stacked
  pub room : (fs : List ℕ) → CallsOn p p.main fs → low + 2 * length fs + 17 ≤ e.address_of 1281 0

-- a view before whose run nothing was noted and no access was barred
abbrev pub anew : View → View
anew v = record { at = v.at; flags = v.flags; page = v.page; inputs = v.inputs; seen = []; safe = true }

-- all accesses but the silent ones, which are of registers, of the stack pointer or of nothing
abbrev pub all_but_silent : List Access → List Access
all_but_silent [] = []
all_but_silent (Silent ∷ trace) = all_but_silent trace
all_but_silent (a ∷ trace) = a ∷ all_but_silent trace

-- After some steps, none of which makes an access that is barred, the machine is where main begins, and goes on from
-- there with the same inputs. The last of these steps is the call of main, whose access is one of the stack; all
-- accesses before it, but the silent ones, are those that set the bytes of spans. What the machine shows from main on is
-- all that the operations do, in at most the steps that they may take, and never more, as long as they access none but
-- ports of the machine. A view shows the state where main begins, with the initial values of the objects, and its run
-- makes no access that is barred
pub record ShowsProgram (p : PlainIrProgram) (place : ℕ → ℕ) (e : Env) (spans : List Span) (v : View) (s : State)
    (inputs : Inputs) : Type 0 where
  pub steps : ℕ
  pub at_most : steps ≤ most_steps spans + 1
  pub before : List Access
  pub trace : List Access
  pub main : State
  pub ran : machine steps v.inputs s ≡ Running trace main
  pub on : (k : ℕ) → machine (steps + k) v.inputs s ≡ preceded_by trace (machine k v.inputs main)
  pub calls : trace ≡ before ++ Stack ∷ []
  pub copies : all_but_silent before ≡ all_accesses e spans
  pub started : is_safe (run e steps (AtWord s.pc (anew v))) ≡ true
  pub reaches : Reaches (within_steps p inputs) (seen_meaning e p place inputs) (noted_run e v.inputs main)
  pub within : (m : ℕ) → IsWithin (seen_meaning e p place inputs m) (noted_run e v.inputs main m)
  pub view : View
  pub shown : Shows e (length s.mem.data) main.core main.mem view
  pub given : view.inputs ≡ v.inputs
  pub initials : HasInitials (data_of p) place view
  pub safe : (m : ℕ) → HoldsUnlessFailed (meaning_on e p inputs m) (is_safe (run e m (AtWord main.pc view)))

abbrev pub ProgramsShowTheirOperations : Type 0
ProgramsShowTheirOperations =
    (cells : ℕ) (p : PlainIrProgram) (place entry_of : ℕ → ℕ) (e : Env) (spans : List Span) (size low : ℕ) (s : State)
    (v : View) (inputs : Inputs) → ValidIr cells p → Fits e size → Shows e size s.core s.mem v → ((port : ℕ) → v.inputs port ≡ inputs port)
    → AreSelected cells p e place entry_of → CanStart p e place entry_of spans low s.pc
    → ShowsProgram p place e spans v s inputs

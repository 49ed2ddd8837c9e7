-- What a placed program does, from every reset state on.
use Rattle.std.specs.Prelude.{ℕ, ◌≡◌, ◌+◌, ◌<◌, ◌≤◌, nat_le, Bool, true, ℤ, List, [], ◌∷◌, ◌++◌, sum_by, slice_index, All}
use Rattle.std.specs.List.{AllByRecursion}
use Rattle.ec_space.specs.Memory.{data_size}
use Rattle.ec_runs.specs.Behaviours.{Behaviour, Reaches, IsWithin, seen_as}
use Rattle.ec_avr.specs.declared.machine.Access.{Access}
use Rattle.ec_avr.specs.declared.machine.Access.TheVariants.{Silent, Stack}
use Rattle.ec_avr.specs.Machine.{State, Inputs, Running, machine, IsReset}
use Rattle.ec_avr.specs.Placed.{stack_bytes}
use Rattle.ec_avr.specs.Runs.{preceded_by}
use Rattle.ec_asm.specs.Behaves.{noted_run}
use Rattle.ec_asm.specs.Change.{Env, Stacked}
use Rattle.ec_asm.specs.Run.{Running as AtWord, run, is_safe}
use Rattle.ec_asm.specs.Shows.{Shows}
use Rattle.ec_asm.specs.View.{View, bytes_of, flags_of}
use Rattle.ec_asm.specs.declared.items.AsmProgram.{AsmProgram}
use Rattle.ec_core.specs.Meaning.{source, work}
use Rattle.ec_core.specs.Plain.{PlainProgram}
use Rattle.ec_core.specs.PortTable.{plain_table}
use Rattle.ec_core.specs.ValueTypes.{GiveBytes}
use Rattle.ec_core.specs.declared.values.Undefined.{Undefined}
use Rattle.ec_iohw.specs.declared.table.IoTable.{IoTable}
use Rattle.ec_lower_code.specs.Code.{lowered}
use Rattle.ec_map.specs.declared.map.Map.{Map}
use Rattle.ec_locate.specs.declared.placing.Located.{Located}
use Rattle.ec_ir.specs.Operations.{data_of}
use Rattle.ec_select_reset.specs.Laws.{HasInitials, all_but_silent}
use Rattle.ec_select_functions.specs.Laws.{HoldsUnlessFailed}
use Rattle.ec_select_functions.specs.Relation.{accesses}
use Rattle.ec_select_startup.specs.Laws.{all_accesses}
use Rattle.ec_select.specs.LaidOut.{object_steps}
use Rattle.ec_select.specs.Laws.{RunsAsOperations}
use Rattle.ec_select.specs.Program.{spans_of}
use Rattle.ec_build_laws.specs.Kinds.{placed, place_of}
use Rattle.ec_build_laws.specs.Translation.{IsTranslated}

-- ---- beside the operations

-- the view of a state, where the ports are going to give some bytes
abbrev pub view_of : State → Inputs → View
view_of s inputs = record {
  at = bytes_of s.mem.data;
  flags = flags_of (slice_index s.mem.data 0x5F);
  page = slice_index s.mem.data 0x5B;
  inputs = inputs;
  seen = [];
  safe = true;
}

-- In at most two steps, which are silent, a machine with so many data bytes comes to a word where Y is as an environment
-- tells. Up to there the bytes that a step pushes or pops are the stack's
pub record Begins (e : Env) (size word : ℕ) (s : State) (inputs : Inputs) : Type 0 where
  pub steps : ℕ
  pub few : steps ≤ 2
  pub trace : List Access
  pub silent : AllByRecursion (λ a. a ≡ Silent) trace
  pub first : State
  pub ran : (k : ℕ) → machine (steps + k) inputs s ≡ preceded_by trace (machine k inputs first)
  pub at : first.pc ≡ word
  pub shows : Shows e size first.core first.mem (view_of first inputs)
  pub stacked : (k : ℕ) (before : List Access) (t : State) → k < steps → machine k inputs s ≡ Running before t
      → All (λ at. e.kind at ≡ Stacked) (stack_bytes t)

-- from there on it does what the operations do, as long as they access none but ports of the machine
pub record RunsFromReset (p : PlainProgram) (m : Map) (l : Located) (e : Env) (s : State) (inputs : Inputs) : Type 0 where
  pub word : ℕ
  pub begins : Begins e (data_size m.core) word s inputs
  pub runs : RunsAsOperations (lowered p (plain_table m.io)) (place_of l) e (view_of begins.first inputs) begins.first
      inputs

-- so does a placed program from every reset state
abbrev pub ImagesRun : Type 0
ImagesRun =
    (p : PlainProgram) (m : Map) (asm : AsmProgram) (l : Located) (s : State) (inputs : Inputs)
    → IsTranslated p m asm l → IsReset l.image.core l.image.bytes.items s → GiveBytes inputs
    → RunsFromReset p m l (placed p m asm l) s inputs

-- ---- beside the source

-- the steps before main: 400, 40 for each static object of the data bank, and 20 for each byte of it
abbrev pub start_steps : PlainProgram → ℕ
start_steps p = 400 + sum_by (object_steps p.structs) p.objects

-- what the source shows, where accesses of objects are those of their bytes at the places of the objects
abbrev pub seen_source : PlainProgram → IoTable → Located → Inputs → ℕ → Behaviour Access ℤ Undefined
seen_source p io l inputs n = seen_as (accesses p (place_of l)) (source p (plain_table io) inputs n)

-- so many steps are within the work of n turns
abbrev pub is_within_work : PlainProgram → IoTable → Inputs → (n steps : ℕ) → Bool
is_within_work p io inputs n steps = nat_le steps (work p (plain_table io) inputs n)

-- In a number of steps the machine comes to where main begins, and up to there the bytes that a step pushes or pops are
-- the stack's. The last of these steps is the call of main, and all accesses before it, but the silent ones, are those that copy the initial bytes. From main
-- on the machine shows all that the source shows, within its work, and never more. A view shows the state where main
-- begins, with the initial values of the objects, and its run makes no access that is barred. What is noted and what is
-- barred is as an environment tells
pub record RunsAsSource (p : PlainProgram) (m : Map) (l : Located) (e : Env) (s : State)
    (inputs : Inputs) : Type 0 where
  pub steps : ℕ
  pub few : steps ≤ start_steps p
  pub before : List Access
  pub trace : List Access
  pub main : State
  pub ran : machine steps inputs s ≡ Running trace main
  pub on : (k : ℕ) → machine (steps + k) inputs s ≡ preceded_by trace (machine k inputs main)
  pub stacked : (k : ℕ) (before : List Access) (t : State) → k < steps → machine k inputs s ≡ Running before t
      → All (λ at. e.kind at ≡ Stacked) (stack_bytes t)
  pub calls : trace ≡ before ++ Stack ∷ []
  pub copies : all_but_silent before ≡ all_accesses e (spans_of (lowered p (plain_table m.io)))
  pub reaches : Reaches (is_within_work p m.io inputs) (seen_source p m.io l inputs) (noted_run e inputs main)
  pub within : (k : ℕ) → IsWithin (seen_source p m.io l inputs k) (noted_run e inputs main k)
  pub view : View
  pub shown : Shows e (data_size m.core) main.core main.mem view
  pub given : view.inputs ≡ inputs
  pub initials : HasInitials (data_of (lowered p (plain_table m.io))) (place_of l) view
  pub safe : (k : ℕ)
      → HoldsUnlessFailed (source p (plain_table m.io) inputs k) (is_safe (run e k (AtWord main.pc view)))

abbrev pub ImagesRunAsSources : Type 0
ImagesRunAsSources =
    (p : PlainProgram) (m : Map) (asm : AsmProgram) (l : Located) (s : State) (inputs : Inputs)
    → IsTranslated p m asm l → IsReset l.image.core l.image.bytes.items s → GiveBytes inputs
    → RunsAsSource p m l (placed p m asm l) s inputs

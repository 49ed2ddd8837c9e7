-- What a machine shows from its reset on, beside the source.
use Rattle.std.specs.Prelude.{ℕ, ◌≡◌, ◌⊎◌, ◌+◌, ◌<◌, ◌≤◌, ⊤, All, ℤ, List, [], ◌∷◌, ◌++◌}
use Rattle.ec_space.specs.Memory.{data_size}
use Rattle.ec_runs.specs.Behaviours.{Behaviour, Running as GoesOn, Ended as Ends, Failed, BeginWith}
use Rattle.ec_avr.specs.declared.machine.Access.{Access}
use Rattle.ec_avr.specs.declared.machine.Access.TheVariants.{In, Out, Stack}
use Rattle.ec_avr.specs.Machine.{State, Inputs, Run, Running, EndedWith, FaultedAt, machine, IsReset}
use Rattle.ec_avr.specs.Placed.{stack_bytes}
use Rattle.ec_asm.specs.Shows.{Shows, noted_all}
use Rattle.ec_asm.specs.View.{View}
use Rattle.ec_asm.specs.declared.items.AsmProgram.{AsmProgram}
use Rattle.ec_core.specs.Meaning.{source, work}
use Rattle.ec_core.specs.Plain.{PlainProgram}
use Rattle.ec_core.specs.PortTable.{plain_table}
use Rattle.ec_core.specs.State.{Event}
use Rattle.ec_core.specs.ValueTypes.{GiveBytes}
use Rattle.ec_core.specs.declared.values.Undefined.{Undefined}
use Rattle.ec_lower_code.specs.Code.{lowered}
use Rattle.ec_ir.specs.Operations.{data_of}
use Rattle.ec_map.specs.Regions.{end_of}
use Rattle.ec_map.specs.declared.map.Map.{Map}
use Rattle.ec_select_reset.specs.Laws.{HasInitials, all_but_silent}
use Rattle.ec_locate.specs.declared.placing.Located.{Located}
use Rattle.ec_select_functions.specs.Relation.{accesses}
use Rattle.ec_select_startup.specs.Laws.{all_accesses}
use Rattle.ec_select.specs.Program.{spans_of}
use Rattle.ec_build_laws.specs.Kinds.{placed, place_of}
use Rattle.ec_build_laws.specs.Runs.{start_steps}
use Rattle.ec_build_laws.specs.Translation.{IsTranslated}

-- the accesses of ports
abbrev pub ports_of : List Access → List Access
ports_of [] = []
ports_of (In port byte ∷ trace) = In port byte ∷ ports_of trace
ports_of (Out port byte ∷ trace) = Out port byte ∷ ports_of trace
ports_of (a ∷ trace) = ports_of trace

-- what is left of the accesses behind those before main is all that some events are
pub record ShowsAll (p : PlainProgram) (l : Located) (left : List Access → List Access) (start : List Access)
    (es : List Event) (trace : List Access) : Type 0 where
  pub after : List Access
  pub is : trace ≡ start ++ after
  pub shown : left after ≡ accesses p (place_of l) es

-- or the first of these
pub record ShowsFirst (p : PlainProgram) (l : Located) (left : List Access → List Access) (start : List Access)
    (es : List Event) (trace : List Access) : Type 0 where
  pub after : List Access
  pub is : trace ≡ start ++ after
  pub shown : BeginWith (left after) (accesses p (place_of l) es)

-- A machine with `start` before main, of whose accesses behind these some are left. In at most so many steps it comes
-- to what the source shows after n turns, and at least n steps where that goes on
module _ (p : PlainProgram) (l : Located) (left : List Access → List Access) (s : State) (inputs : Inputs)
    (start : List Access) where
  abbrev pub Comes : (n most : ℕ) → Behaviour Event ℤ Undefined → Type 0
  Comes n most (GoesOn es) =
      (k : ℕ) × (trace : List Access) × (t : State) × (k ≤ most) × (n ≤ k) × (machine k inputs s ≡ Running trace t)
      × ShowsAll p l left start es trace
  Comes n most (Ends es result) =
      (k : ℕ) × (trace : List Access) × (k ≤ most) × (machine k inputs s ≡ EndedWith trace result)
      × ShowsAll p l left start es trace
  Comes n most (Failed point) = ⊤

  -- it is not yet in main, or shows a part of what the source shows. It ends only where that ends, and never faults
  abbrev pub IsWithinSource : Behaviour Event ℤ Undefined → Run → Type 0
  IsWithinSource (Failed point) run = ⊤
  IsWithinSource (GoesOn es) (Running trace t) = BeginWith trace start ⊎ ShowsFirst p l left start es trace
  IsWithinSource (GoesOn es) (EndedWith trace result) = ⊥
  IsWithinSource (GoesOn es) (FaultedAt trace kind pc) = ⊥
  IsWithinSource (Ends es other) (Running trace t) = BeginWith trace start ⊎ ShowsFirst p l left start es trace
  IsWithinSource (Ends es other) (EndedWith trace result) = ShowsAll p l left start es trace × (result ≡ other)
  IsWithinSource (Ends es other) (FaultedAt trace kind pc) = ⊥

-- the bytes that the next step pushes or pops are all of region `stack`
abbrev pub StaysInStack : Map → State → Type 0
StaysInStack m t = All (λ at. (m.stack.first ≤ at) × (at < end_of m.stack)) (stack_bytes t)

-- so it is where the source has a meaning
abbrev pub PushesInRegion : Map → Behaviour Event ℤ Undefined → State → Type 0
PushesInRegion m (Failed point) t = ⊤
PushesInRegion m (GoesOn es) t = StaysInStack m t
PushesInRegion m (Ends es result) t = StaysInStack m t

-- The machine comes to main in at most so many steps. The last of them is its call, and all accesses before that, but
-- the silent ones, are those that copy the initial bytes; then the objects have their initial values. From main on each
-- part of the source is reached within its work, and each step stays within the source. Up to main, its call included,
-- the stack stays in its region, and from there on where the source has a meaning
pub record ShowsSource (p : PlainProgram) (m : Map) (asm : AsmProgram) (l : Located) (s : State)
    (inputs : Inputs) : Type 0 where
  pub steps : ℕ
  pub few : steps ≤ start_steps p
  pub before : List Access
  pub start : List Access
  pub main : State
  pub ran : machine steps inputs s ≡ Running start main
  pub calls : start ≡ before ++ Stack ∷ []
  pub copies : all_but_silent before ≡ all_accesses (placed p m asm l) (spans_of (lowered p (plain_table m.io)))
  pub quiet : ports_of start ≡ []
  pub view : View
  pub shown : Shows (placed p m asm l) (data_size m.core) main.core main.mem view
  pub initials : HasInitials (data_of (lowered p (plain_table m.io))) (place_of l) view
  pub reached : (n : ℕ)
      → Comes p l (noted_all (placed p m asm l)) s inputs start n (start_steps p + work p (plain_table m.io) inputs n)
      (source p (plain_table m.io) inputs n)
  pub within : (k : ℕ)
      → IsWithinSource p l (noted_all (placed p m asm l)) s inputs start (source p (plain_table m.io) inputs k)
      (machine k inputs s)
  pub start_stack : (k : ℕ) (trace : List Access) (t : State) → k < steps → machine k inputs s ≡ Running trace t
      → StaysInStack m t
  pub stack : (k : ℕ) (trace : List Access) (t : State) → machine k inputs main ≡ Running trace t
      → PushesInRegion m (source p (plain_table m.io) inputs (k + 1)) t

abbrev pub ImagesShowTheirSources : Type 0
ImagesShowTheirSources =
    (p : PlainProgram) (m : Map) (asm : AsmProgram) (l : Located) (s : State) (inputs : Inputs)
    → IsTranslated p m asm l → IsReset l.image.core l.image.bytes.items s → GiveBytes inputs
    → ShowsSource p m asm l s inputs

-- The runs of a placed program that stop at a number, beside the source.
use Rattle.std.specs.Prelude.{ℕ, ◌≡◌, ℤ, Bool, IsTrue, List, [], ◌∷◌, ◌++◌, length}
use Rattle.ec_runs.specs.Behaviours.{Behaviour, Running as GoesOn, Ended as Ends, Failed, BeginWith}
use Rattle.ec_avr.specs.declared.machine.Access.{Access}
use Rattle.ec_avr.specs.declared.machine.Access.TheVariants.{Stack}
use Rattle.ec_core.specs.Meaning.{source}
use Rattle.ec_core.specs.Plain.{PlainProgram}
use Rattle.ec_core.specs.PortTable.{plain_table}
use Rattle.ec_core.specs.State.{Inputs, Event, Write}
use Rattle.ec_core.specs.declared.programs.LeafInit.TheVariants.{Number}
use Rattle.ec_core.specs.declared.values.Undefined.{Undefined}
use Rattle.ec_emu_watch.specs.declared.point.WatchPoint.{WatchPoint}
use Rattle.ec_emu_watch.specs.declared.run.WatchEnd.{WatchEnd}
use Rattle.ec_emu_watch.specs.declared.run.WatchEnd.TheVariants.{Hit, Ended, StepsOut, Fault, WriteFault}
use Rattle.ec_map.specs.declared.map.Map.{Map}
use Rattle.ec_locate.specs.declared.placing.Located.{Located}
use Rattle.ec_select_functions.specs.Relation.{accesses}
use Rattle.ec_build_laws.specs.Kinds.{place_of}
use Rattle.ec_build_laws.specs.Whole.{kept}

-- ---- what is left of a whole trace

-- the accesses behind the first one of the stack, which is the call of main
abbrev pub after_startup : List Access → List Access
after_startup [] = []
after_startup (Stack ∷ trace) = trace
after_startup (_ ∷ trace) = after_startup trace

abbrev pub plain_trace : PlainProgram → Map → Located → List Access → List Access
plain_trace p m l trace = kept p m l (after_startup trace)

-- ---- the events of the source

-- those of a run that goes on or ends
abbrev pub events_in : Behaviour Event ℤ Undefined → List Event
events_in (GoesOn es) = es
events_in (Ends es result) = es
events_in (Failed point) = []

-- a write of leaf k of object o with a number of which a rule holds
abbrev pub IsWatchedWrite : (o k : ℕ) → (ℤ → Bool) → Event → ℤ → Type 0
IsWatchedWrite o k holds (Write object leaf space (Number n)) value =
    (object ≡ o) × (leaf ≡ k) × (n ≡ value) × IsTrue (holds value)
IsWatchedWrite o k holds _ value = ⊥

module _ (o k : ℕ) (holds : ℤ → Bool) where
  -- none of some events is one
  abbrev pub HasNoWatchedWrite : List Event → Type 0
  HasNoWatchedWrite es =
      (before behind : List Event) (e : Event) (value : ℤ) → es ≡ before ++ e ∷ behind
      → IsWatchedWrite o k holds e value → ⊥

  -- the first of them
  pub record FirstWatchedWrite (es : List Event) (value : ℤ) : Type 0 where
    pub before : List Event
    pub write : Event
    pub behind : List Event
    pub are : es ≡ before ++ write ∷ behind
    pub is : IsWatchedWrite o k holds write value
    pub first : HasNoWatchedWrite before

-- ---- a run beside the source on the same inputs

module _ (p : PlainProgram) (m : Map) (l : Located) (inputs : Inputs) (point : WatchPoint) (holds : ℤ → Bool) where
  -- the events of the source after so many turns
  abbrev events_after : ℕ → List Event
  events_after n = events_in (source p (plain_table m.io) inputs n)

  -- It stopped with a value. This is the one of the first watched write of the source, and what is left of the run is all
  -- that the source does up to this write and with it
  pub record StopsAtWrite (trace : List Access) (value : ℤ) : Type 0 where
    pub first : FirstWatchedWrite point.object point.leaf holds (events_after (length trace)) value
    pub shown : plain_trace p m l trace ≡ accesses p (place_of l) (first.before ++ first.write ∷ [])

  -- it ended, and so did the source, with this result and no watched write
  pub record EndsUnwatched (steps : ℕ) (trace : List Access) (result : ℤ) : Type 0 where
    pub es : List Event
    pub source_ends : source p (plain_table m.io) inputs steps ≡ Ends es result
    pub none : HasNoWatchedWrite point.object point.leaf holds es
    pub shown : plain_trace p m l trace ≡ accesses p (place_of l) es

  -- what is left of it is the first part of what the source does
  abbrev pub IsWithinEvents : ℕ → List Access → Type 0
  IsWithinEvents n trace = BeginWith (plain_trace p m l trace) (accesses p (place_of l) (events_after n))

  -- all steps were made, and no event whose accesses were all made is a watched write
  pub record GoesOnUnwatched (steps : ℕ) (trace : List Access) : Type 0 where
    pub all : length trace ≡ steps
    pub shown : IsWithinEvents steps trace
    pub none : (before behind : List Event) (e : Event) (value : ℤ) → events_after steps ≡ before ++ e ∷ behind
        → BeginWith (accesses p (place_of l) (before ++ e ∷ [])) (plain_trace p m l trace)
        → IsWatchedWrite point.object point.leaf holds e value → ⊥

  -- so it is by how the run ended, which is never in a fault
  abbrev pub KeepsWatched : (steps : ℕ) → List Access → WatchEnd → Type 0
  KeepsWatched steps trace (Hit value) = StopsAtWrite trace value
  KeepsWatched steps trace (Ended result) = EndsUnwatched steps trace result
  KeepsWatched steps trace StepsOut = GoesOnUnwatched steps trace
  KeepsWatched steps trace (Fault kind pc) = ⊥
  KeepsWatched steps trace WriteFault = IsWithinEvents (length trace) trace

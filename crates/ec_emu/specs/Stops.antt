-- Runs that stop behind the first access of the stack, where something is found after a step.
use Rattle.std.specs.Prelude.{◌≡◌, ℕ, Bool, true, false, IsTrue, List, [], ◌∷◌, ◌++◌, length}
use Rattle.ec_avr.specs.declared.machine.Access.{Access}
use Rattle.ec_avr.specs.declared.machine.Access.TheVariants.{Stack}
use Rattle.ec_avr.specs.Runs.{LeadsTo}
use Rattle.ec_avr.specs.State.{State}
use Rattle.ec_emu.specs.declared.ask.Ask.{Ask}
use Rattle.ec_emu.specs.declared.run.EmuEnd.{EmuEnd}
use Rattle.ec_emu.specs.declared.run.EmuEnd.TheVariants.{StepsOut, WriteFault}
use Rattle.ec_emu.specs.declared.run.UntilReport.{UntilReport}
use Rattle.ec_emu.specs.Emulation.{IsRun}

abbrev pub is_stack : Access → Bool
is_stack Stack = true
is_stack _ = false

-- one of some accesses is of the stack
abbrev pub has_stack : List Access → Bool
has_stack [] = false
has_stack (Stack ∷ trace) = true
has_stack (_ ∷ trace) = has_stack trace

-- where a run may stop: after a step with an access, and with the state of the machine then
module _ (stops : Access → State → Bool) where
  -- From a state on, the step with this access behind those is one at which a run stops: there was an access of the
  -- stack before it, and it is found in the state to which it leads
  pub record IsStop (old : State) (before : List Access) (a : Access) (t : State) : Type 0 where
    pub begun : IsTrue (has_stack before)
    pub leads : LeadsTo old (before ++ a ∷ []) t
    pub found : IsTrue (stops a t)

  -- no step with one of these accesses is such a one
  abbrev pub HasNoStop : State → List Access → Type 0
  HasNoStop old trace =
      (before more : List Access) (a : Access) (t : State) → trace ≡ before ++ a ∷ more → IsStop old before a t → ⊥

  -- the last step with these accesses is the first such one, and leads to a state
  pub record EndsAtStop (old : State) (trace : List Access) (new : State) : Type 0 where
    pub before : List Access
    pub last : Access
    pub is : trace ≡ before ++ last ∷ []
    pub stop : IsStop old before last new
    pub first : HasNoStop old before

  -- no step at which a run might have stopped was passed. Where a line was not written whole, this says nothing of its
  -- step, which is the last
  abbrev pub NotStopped : EmuEnd → State → List Access → Type 0
  NotStopped WriteFault old trace =
      (before : List Access) (last : Access) → trace ≡ before ++ last ∷ [] → HasNoStop old before
  NotStopped end old trace = HasNoStop old trace

  -- A run that stopped is one of as many steps as were made, of which the last is the first at which it stops; and one
  -- that did not is a run of at most so many steps, none of which is such a one
  abbrev pub IsRunUntil : (Ask → ℕ → Type 0) → (steps : ℕ) → (old new : State) → UntilReport → List Access
      → (stopped : Bool) → Type 0
  IsRunUntil gives steps old new result trace true =
      (result.report.end ≡ StepsOut) × IsRun gives (length trace) old new result.report trace × EndsAtStop old trace new
  IsRunUntil gives steps old new result trace false =
      IsRun gives steps old new result.report trace × NotStopped result.report.end old trace

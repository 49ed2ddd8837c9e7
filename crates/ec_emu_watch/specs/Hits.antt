-- At which step a run stops, where a number is watched.
use Rattle.std.specs.Prelude.{◌≡◌, ℕ, ℤ, Bool, true, false, ◌&&◌, IsTrue, List, [], ◌∷◌, ◌++◌, length, Option, Some, None}
use Rattle.ec_avr.specs.declared.machine.Access.{Access}
use Rattle.ec_avr.specs.Runs.{LeadsTo}
use Rattle.ec_avr.specs.State.{State}
use Rattle.ec_emu.specs.declared.ask.Ask.{Ask}
use Rattle.ec_emu.specs.declared.run.EmuEnd.{EmuEnd}
use Rattle.ec_emu.specs.declared.run.EmuEnd.TheVariants.{Ended as EmuEnded, StepsOut as EmuStepsOut, Fault as EmuFault}
use Rattle.ec_emu.specs.declared.run.EmuEnd.TheVariants.{WriteFault as EmuWriteFault}
use Rattle.ec_emu.specs.declared.run.EmuReport.{EmuReport}
use Rattle.ec_emu.specs.Emulation.{IsRun}
use Rattle.ec_emu.specs.Stops.{has_stack}
use Rattle.ec_emu_watch.specs.declared.point.WatchPoint.{WatchPoint}
use Rattle.ec_emu_watch.specs.declared.run.WatchEnd.{WatchEnd}
use Rattle.ec_emu_watch.specs.declared.run.WatchEnd.TheVariants.{Hit, Ended, StepsOut, Fault, WriteFault}
use Rattle.ec_emu_watch.specs.declared.run.WatchReport.{WatchReport}
use Rattle.ec_emu_watch.specs.Points.{value_at, writes_last}

-- a rule holds of the number that is there, if there is one
abbrev pub holds_of : (ℤ → Bool) → Option ℤ → Bool
holds_of holds None = false
holds_of holds (Some value) = holds value

-- after a step with this access the machine holds a number at the point of which a rule holds, and its last byte is the
-- one that was written
abbrev pub is_hit : WatchPoint → (ℤ → Bool) → Access → State → Bool
is_hit point holds a t = writes_last point a && holds_of holds (value_at point t.mem)

module _ (point : WatchPoint) (holds : ℤ → Bool) where
  -- From a state on, the step with this access behind those is a hit with a value: there was an access of the stack
  -- before it, which is the end of the startup; it writes the last byte of the number; and then the machine holds the
  -- value there, of which the rule holds
  pub record IsHit (old : State) (before : List Access) (a : Access) (t : State) (value : ℤ) : Type 0 where
    pub begun : IsTrue (has_stack before)
    pub leads : LeadsTo old (before ++ a ∷ []) t
    pub writes : IsTrue (writes_last point a)
    pub held : value_at point t.mem ≡ Some value
    pub rule : IsTrue (holds value)

  -- no step with one of these accesses is one
  abbrev pub HasNoHit : State → List Access → Type 0
  HasNoHit old trace =
      (before more : List Access) (a : Access) (t : State) (value : ℤ) → trace ≡ before ++ a ∷ more
      → IsHit old before a t value → ⊥

  -- the last step with these accesses is the first hit
  pub record EndsAtHit (old : State) (trace : List Access) (new : State) (value : ℤ) : Type 0 where
    pub before : List Access
    pub last : Access
    pub is : trace ≡ before ++ last ∷ []
    pub hit : IsHit old before last new value
    pub first : HasNoHit old before

-- how `emulate` ends, of as many steps as were made where there was a hit
abbrev pub emulated : WatchEnd → EmuEnd
emulated (Hit value) = EmuStepsOut
emulated (Ended result) = EmuEnded result
emulated StepsOut = EmuStepsOut
emulated (Fault kind pc) = EmuFault kind pc
emulated WriteFault = EmuWriteFault

-- and what it reports
abbrev pub emulation : WatchReport → EmuReport
emulation report = record { end = emulated report.end; reads = report.reads; writes = report.writes }

-- A run that ends with a hit is one of as many steps as were made, of which the last is the first hit. One that ends
-- otherwise is the run of `emulate` of at most so many steps, none of which is a hit
abbrev pub IsWatchedBy : WatchPoint → (ℤ → Bool) → (Ask → ℕ → Type 0) → (steps : ℕ) → (old new : State) → EmuReport
    → List Access → WatchEnd → Type 0
IsWatchedBy point holds gives steps old new report trace (Hit value) =
    IsRun gives (length trace) old new report trace × EndsAtHit point holds old trace new value
IsWatchedBy point holds gives steps old new report trace end =
    IsRun gives steps old new report trace × HasNoHit point holds old trace

abbrev pub IsWatched : WatchPoint → (ℤ → Bool) → (Ask → ℕ → Type 0) → (steps : ℕ) → (old new : State) → WatchReport
    → List Access → Type 0
IsWatched point holds gives steps old new report trace =
    IsWatchedBy point holds gives steps old new (emulation report) trace report.end

-- how a run ended that was stopped at a value or not
abbrev pub end_by : (stopped : Bool) → (value : ℤ) → EmuEnd → WatchEnd
end_by true value end = Hit value
end_by false value (EmuEnded result) = Ended result
end_by false value EmuStepsOut = StepsOut
end_by false value (EmuFault kind pc) = Fault kind pc
end_by false value EmuWriteFault = WriteFault

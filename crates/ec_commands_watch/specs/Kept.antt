-- What a watched run shows beside the source of what runs.
use Rattle.std.specs.Prelude.{ℕ, ℤ, ◌≡◌, Bool, List, length}
use Rattle.ec_runs.specs.Behaviours.{BeginWith}
use Rattle.ec_avr.specs.declared.machine.Access.{Access}
use Rattle.ec_avr.specs.Machine.{Inputs}
use Rattle.ec_avr.specs.Runs.{answers, and_then}
use Rattle.ec_core.specs.Meaning.{source, Defined}
use Rattle.ec_core.specs.Plain.{PlainProgram, plain_program}
use Rattle.ec_core.specs.PortTable.{plain_table}
use Rattle.ec_core.specs.ValueTypes.{GiveBytes}
use Rattle.ec_emu_watch.specs.declared.point.WatchPoint.{WatchPoint}
use Rattle.ec_emu_watch.specs.declared.run.WatchEnd.{WatchEnd}
use Rattle.ec_emu_watch.specs.declared.run.WatchEnd.TheVariants.{Hit, Ended, StepsOut, Fault, WriteFault}
use Rattle.ec_map.specs.declared.map.Map.{Map}
use Rattle.ec_locate.specs.declared.placing.Located.{Located}
use Rattle.ec_build_laws.specs.Shown.{ports_of}
use Rattle.ec_build.specs.declared.building.Built.{Built}
use Rattle.ec_watch.specs.Watches.{KeepsSource}
use Rattle.ec_watch_laws.specs.Watched.{KeepsWatched, events_in}
use Rattle.ec_commands_compile.specs.Kept.{port_events}

module _ (p : PlainProgram) (m : Map) (l : Located) (inputs : Inputs) (point : WatchPoint) (holds : ℤ → Bool)
    (steps : ℕ) (trace : List Access) where
  -- the port accesses of the run are the first ones of the source after so many turns
  abbrev pub ShowsFirstPorts : ℕ → Type 0
  ShowsFirstPorts n = BeginWith (ports_of trace) (port_events (events_in (source p (plain_table m.io) inputs n)))

  -- Where it stopped with a value, they are those before the first watched write of the source, all of them; where it
  -- ended, they are all of the source; and else the first ones
  abbrev pub KeepsPorts : (end : WatchEnd) → KeepsWatched p m l inputs point holds steps trace end → Type 0
  KeepsPorts (Hit value) kept = ports_of trace ≡ port_events kept.first.before
  KeepsPorts (Ended result) kept = ports_of trace ≡ port_events kept.es
  KeepsPorts StepsOut kept = ShowsFirstPorts steps
  KeepsPorts (Fault kind pc) kept = ⊥
  KeepsPorts WriteFault kept = ShowsFirstPorts (length trace)

-- So it is on all inputs that begin with the bytes that the ports gave, and under which the source is defined. The value
-- of a hit is the one of the source's first watched write; a run that ended has the source's result, and the source no
-- such write; no run ends in a fault
abbrev pub KeepsSourceOf : Built → WatchPoint → (ℤ → Bool) → ℕ → List Access → WatchEnd → Type 0
KeepsSourceOf b point holds steps trace end =
    (more : Inputs) → GiveBytes (and_then (answers trace) more)
    → Defined (plain_program b.program) (plain_table b.map.io) (and_then (answers trace) more)
    → (kept : KeepsWatched (plain_program b.program) b.map b.located (and_then (answers trace) more) point holds steps
    trace end)
    × KeepsPorts (plain_program b.program) b.map b.located (and_then (answers trace) more) point holds steps trace end kept

-- a run stands so to the source of a build
pub record Keeps (b : Built) (point : WatchPoint) (holds : ℤ → Bool) (steps : ℕ) (trace : List Access) (end : WatchEnd)
    : Type 0 where
  pub source : KeepsSource b point holds steps trace end

-- What a run shows beside the source of what runs.
use Rattle.std.specs.Prelude.{ℕ, ℤ, ◌≡◌, ◌+◌, ◌≤◌, List, [], ◌∷◌, length}
use Rattle.ec_runs.specs.Behaviours.{Behaviour, Running as GoesOn, Ended as Ends, Failed, BeginWith}
use Rattle.ec_avr.specs.declared.machine.Access.{Access}
use Rattle.ec_avr.specs.declared.machine.Access.TheVariants.{In as PortIn, Out as PortOut}
use Rattle.ec_avr.specs.declared.machine.FaultKind.{FaultKind}
use Rattle.ec_avr.specs.Machine.{Inputs}
use Rattle.ec_avr.specs.Runs.{answers, and_then}
use Rattle.ec_core.specs.Meaning.{source, work, Defined}
use Rattle.ec_core.specs.Plain.{PlainProgram, plain_program}
use Rattle.ec_core.specs.PortTable.{plain_table}
use Rattle.ec_core.specs.State.{Event, In, Out}
use Rattle.ec_core.specs.ValueTypes.{GiveBytes}
use Rattle.ec_core.specs.declared.values.Undefined.{Undefined}
use Rattle.ec_emu.specs.declared.run.EmuEnd.{EmuEnd}
use Rattle.ec_emu.specs.declared.run.EmuEnd.TheVariants as ends
use Rattle.ec_map.specs.declared.map.Map.{Map}
use Rattle.ec_build_laws.specs.Runs.{start_steps}
use Rattle.ec_build_laws.specs.Shown.{ports_of}
use Rattle.ec_build.specs.declared.building.Built.{Built}

-- the port accesses among some events
abbrev pub port_events : List Event → List Access
port_events [] = []
port_events (In port byte ∷ es) = PortIn port byte ∷ port_events es
port_events (Out port byte ∷ es) = PortOut port byte ∷ port_events es
port_events (e ∷ es) = port_events es

-- the events of a behaviour
abbrev pub events_of : Behaviour Event ℤ Undefined → List Event
events_of (GoesOn es) = es
events_of (Ends es result) = es
events_of (Failed point) = []

-- the source ends with this result, and these are all its port accesses
pub record EndsWith (p : PlainProgram) (m : Map) (inputs : Inputs) (steps : ℕ) (result : ℤ) (trace : List Access)
    : Type 0 where
  pub es : List Event
  pub source_ends : source p (plain_table m.io) inputs steps ≡ Ends es result
  pub all : ports_of trace ≡ port_events es

-- A run beside the source on the same inputs: it never ends in a fault, its port accesses are the first ones of the
-- source, and where it ends, they are all of them, and its result is the source's. Where the source ends, and the steps
-- are as many as those before main and its work, they are enough
pub record KeepsSource (p : PlainProgram) (m : Map) (inputs : Inputs) (steps : ℕ) (end : EmuEnd) (trace : List Access)
    : Type 0 where
  pub never : (kind : FaultKind) (pc : ℕ) → end ≡ ends.Fault kind pc → ⊥
  pub first : BeginWith (ports_of trace) (port_events (events_of (source p (plain_table m.io) inputs (length trace))))
  pub ended : (result : ℤ) → end ≡ ends.Ended result → EndsWith p m inputs steps result trace
  pub enough : (n : ℕ) (es : List Event) (result : ℤ) → source p (plain_table m.io) inputs n ≡ Ends es result
      → start_steps p + work p (plain_table m.io) inputs n ≤ steps → end ≡ ends.StepsOut → ⊥

-- so it is on all inputs that begin with the bytes that the ports gave, and under which the source is defined
abbrev pub KeepsSourceOf : Built → ℕ → EmuEnd → List Access → Type 0
KeepsSourceOf b steps end trace =
    (more : Inputs) → GiveBytes (and_then (answers trace) more)
    → Defined (plain_program b.program) (plain_table b.map.io) (and_then (answers trace) more)
    → KeepsSource (plain_program b.program) b.map (and_then (answers trace) more) steps end trace

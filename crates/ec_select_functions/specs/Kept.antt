-- Runs whose port bytes are ports of a machine.
use Rattle.std.specs.Prelude.{ℕ, Bool, true, false, ◌&&◌, if◌then◌else◌, ℤ, List, [], ◌∷◌}
use Rattle.ec_runs.specs.Behaviours.{Behaviour, Running, Ended, Failed}
use Rattle.ec_asm.specs.Change.{Env, Kind, Own, Object, Port, Stacked, Page, Barred}
use Rattle.ec_core.specs.declared.values.Undefined.{Undefined}
use Rattle.ec_core.specs.declared.values.Undefined.TheVariants.{Access as NoAccess}
use Rattle.ec_core.specs.State.{Inputs, Event, In, Out, Read, Write}
use Rattle.ec_ir.specs.Meaning.{meaning}
use Rattle.ec_ir.specs.Operations.{PlainIrProgram}

abbrev pub is_port_kind : Kind → Bool
is_port_kind Own = false
is_port_kind Object = false
is_port_kind Port = true
is_port_kind Stacked = false
is_port_kind Page = false
is_port_kind Barred = false

-- the byte that an event reads from or writes to a port is a port of the machine
abbrev pub is_on_port : Env → Event → Bool
is_on_port e (In port byte) = is_port_kind (e.kind port)
is_on_port e (Out port byte) = is_port_kind (e.kind port)
is_on_port e (Read o k space told) = true
is_on_port e (Write o k space told) = true

abbrev pub are_on_ports : Env → List Event → Bool
are_on_ports e [] = true
are_on_ports e (x ∷ xs) = is_on_port e x && are_on_ports e xs

-- on the machine a run has no meaning once it accesses a port that the machine lacks
abbrev pub on_ports : Env → Behaviour Event ℤ Undefined → Behaviour Event ℤ Undefined
on_ports e (Running es) = if are_on_ports e es then Running es else Failed NoAccess
on_ports e (Ended es result) = if are_on_ports e es then Ended es result else Failed NoAccess
on_ports e (Failed reason) = Failed reason

abbrev pub meaning_on : Env → PlainIrProgram → Inputs → ℕ → Behaviour Event ℤ Undefined
meaning_on e p inputs n = on_ports e (meaning p inputs n)

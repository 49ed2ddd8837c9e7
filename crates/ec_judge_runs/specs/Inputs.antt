-- What the ports of a run give by a script.
use Rattle.std.specs.Prelude.{ℕ, ◌==◌, if◌then◌else◌, List, [], ◌∷◌, Option, Some, None}
use Rattle.ec_core.specs.State.{Inputs}
use Rattle.ec_emu.specs.Script.{Entry}
use Rattle.ec_emu.specs.declared.script.ScriptLine.{ScriptLine}
use Rattle.ec_interp.specs.declared.behaviour.PortInput.{PortInput}

-- each port gives the bytes of its first line, and none without one
abbrev pub inputs_by : List Entry → Inputs
inputs_by [] port = []
inputs_by (entry ∷ entries) port = if entry.port == port then entry.bytes else inputs_by entries port

-- the port of the first line that is hooked
abbrev pub first_hooked : List Entry → Option ℕ
first_hooked [] = None
first_hooked (entry ∷ entries) = if entry.hook then Some entry.port else first_hooked entries

-- a port and the bytes that it gives
abbrev pub given_by_line : ScriptLine → ℕ × List ℕ
given_by_line line = (line.port, line.bytes.items)

abbrev pub given_by_input : PortInput → ℕ × List ℕ
given_by_input input = (input.port, input.bytes.items)

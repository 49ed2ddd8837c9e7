-- What is printed of the run of a program by its meaning, and which stop tells how it came out.
use Rattle.std.specs.Prelude.{ℕ, ◌≡◌, ◌≤◌, ⊤, List, [], ◌∷◌, ◌++◌, length, map, take, Option, Some, None, Result, Ok, Err}
use Rattle.std.specs.Io.KnownBytes.{Appends}
use Rattle.ec_io.specs.Causes.{Rose}
use Rattle.ec_io.specs.Views.{SinkCall}
use Rattle.ec_iohw.specs.declared.table.IoTable.{IoTable}
use Rattle.ec_core.specs.declared.programs.Program.{Program}
use Rattle.ec_core.specs.declared.values.Value.{Value}
use Rattle.ec_core.specs.Meaning.{number_of, run, setting}
use Rattle.ec_core.specs.Plain.{plain_program}
use Rattle.ec_core.specs.PortTable.{plain_table}
use Rattle.ec_core.specs.State.{Setting, Event, In, Out, Read, Write, Outcome, got, more, undefined}
use Rattle.ec_emu.specs.Lines.{in_line, out_line}
use Rattle.ec_emu.specs.Script.{Entry}
use Rattle.ec_commands.specs.Runs.{result_line}
use Rattle.ec_interp.specs.declared.behaviour.Behaviour.{Behaviour}
use Rattle.ec_interp.specs.declared.behaviour.Behaviour.TheVariants.{Ended, Running, MeetsUndefined}
use Rattle.ec_interp.specs.Places.{IsMetAt}
use Rattle.ec_interp.specs.Views.{seen_event}
use Rattle.ec_judge_runs.specs.declared.stop.RunStop.{RunStop}
use Rattle.ec_judge_runs.specs.declared.stop.RunStop.TheVariants.{NoMemory, CannotWrite, Hooked, TurnsOut}
use Rattle.ec_judge_runs.specs.declared.stop.RunStop.TheVariants.{Undefined as UndefinedAt}
use Rattle.ec_judge_runs.specs.Inputs.{inputs_by, first_hooked}

-- ---- what is printed

-- the line of an access of a port, as a run of the machine prints it; nothing for any other event
abbrev pub event_line : Event → List ℕ
event_line (In port byte) = in_line port byte
event_line (Out port byte) = out_line port byte
event_line (Read object leaf space value) = []
event_line (Write object leaf space value) = []

abbrev pub event_lines : List Event → List ℕ
event_lines [] = []
event_lines (event ∷ events) = event_line event ++ event_lines events

-- a line for each access of a port, and the result where `main` returned
abbrev pub printed : Outcome Value → List ℕ
printed (got x s) = event_lines s.events ++ result_line (number_of x)
printed (more s) = event_lines s.events
printed (undefined point s) = event_lines s.events

-- the same of a behaviour
abbrev pub text_of : Behaviour → List ℕ
text_of (Ended events result) = event_lines (map seen_event events.items) ++ result_line result
text_of (Running events) = event_lines (map seen_event events.items)
text_of (MeetsUndefined point unit at events) = event_lines (map seen_event events.items)

-- ---- how it came out

-- the stop of a behaviour, none where it ended
abbrev pub stop_at : Behaviour → Option RunStop
stop_at (Ended events result) = None
stop_at (Running events) = Some TurnsOut
stop_at (MeetsUndefined point unit at events) = Some (UndefinedAt unit at point)

-- The stop that tells how a run came out, none where `main` returned: a loop is out of turns, or an undefined point is
-- met, told with the innermost statement under execution
abbrev pub Tells : Setting → ℕ → Outcome Value → Option RunStop → Type 0
Tells w n (got x s) None = ⊤
Tells w n (more s) (Some TurnsOut) = ⊤
Tells w n (undefined point s) (Some (UndefinedAt unit at told)) = (told ≡ point) × IsMetAt w n point s unit at
Tells w n o stop = ⊥

-- what `out` received of a run: all that is printed of it, or a prefix of that after a failed write
abbrev pub Shows : Setting → ℕ → SinkCall → Outcome Value → Option RunStop → Type 0
Shows w n out o (Some CannotWrite) =
    Rose out.faults_before out.faults_after × ((k : ℕ) × Appends out.before out.after (take k (printed o)))
Shows w n out o stop = Appends out.before out.after (printed o) × Tells w n o stop

-- a program, with the ports that a table has and what these give by a script
abbrev pub setting_by : Program → IoTable → List Entry → Setting
setting_by program io entries = setting (plain_program program) (plain_table io) (inputs_by entries)

-- its run, where each execution of a loop has at most so many turns
abbrev pub run_of : Setting → ℕ → Outcome Value
run_of w n = run w.program w.table w.inputs n

-- What comes of a judgement: the run is told, with what it prints. Nothing is printed where a line of the script is
-- hooked, which is told by the port of the first such line, or where memory ran out
abbrev pub Judges : Program → IoTable → List Entry → ℕ → SinkCall → Option RunStop → Type 0
Judges program io entries n out (Some (Hooked port)) =
    (first_hooked entries ≡ Some port) × (out.after ≡ out.before)
Judges program io entries n out (Some NoMemory) = out.after ≡ out.before
Judges program io entries n out stop =
    (first_hooked entries ≡ None)
    × (let w = setting_by program io entries in Shows w n out (run_of w n) stop)

-- the stop of an answer
abbrev pub stop_of : Result Unit RunStop → Option RunStop
stop_of (Ok x) = None
stop_of (Err stop) = Some stop

-- all that is printed has at most so many bytes
abbrev pub FitsRun : Program → IoTable → List Entry → ℕ → ℕ → Type 0
FitsRun program io entries n room = length (printed (run_of (setting_by program io entries) n)) ≤ room

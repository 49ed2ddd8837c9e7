-- The status and the line of each stop.
use Rattle.std.specs.Prelude.{ℕ, List, [], ◌∷◌, ◌++◌, codes}
use Rattle.std.specs.Fmt.{decimal}
use Rattle.ec_hex.specs.Bytes.{digits_of}
use Rattle.ec_core.specs.Meaning.{number_of_point}
use Rattle.ec_commands.specs.Stops as commands
use Rattle.ec_commands.specs.Words.{Words}
use Rattle.ec_commands.specs.declared.stop.CommandError.TheVariants as errors
use Rattle.ec_commands_compile.specs.Stops as compiling
use Rattle.ec_commands_compile.specs.Stops.{unit_name}
use Rattle.ec_judge_runs.specs.declared.stop.RunStop.{RunStop}
use Rattle.ec_judge_runs.specs.declared.stop.RunStop.TheVariants.{NoMemory, CannotWrite, Hooked, TurnsOut, Undefined}
use Rattle.ec_judge_files.specs.declared.stop.JudgeStop.{JudgeStop}
use Rattle.ec_judge_files.specs.declared.stop.JudgeStop.TheVariants.{Compile, Run}

abbrev pub run_status : RunStop → ℕ
run_status NoMemory = 11
run_status CannotWrite = 4
run_status (Hooked port) = 12
run_status TurnsOut = 14
run_status (Undefined unit at point) = 20

abbrev pub status_of : JudgeStop → ℕ
status_of (Compile stop) = compiling.status_of stop
status_of (Run stop) = run_status stop

-- an undefined point in a source with this name
abbrev pub undefined_line : List ℕ → (token point : ℕ) → List ℕ
undefined_line name token point =
    name ++ codes " token " ++ decimal token ++ codes ": undefined " ++ decimal point ++ codes "\n"

-- a hooked port is told by its data address, and an undefined point by its number, with the source and the token
abbrev pub run_line : Words → RunStop → List ℕ
run_line words NoMemory = commands.line_of words errors.NoMemory
run_line words CannotWrite = commands.line_of words errors.CannotWrite
run_line words (Hooked port) = codes "script port " ++ digits_of (port ∷ []) ++ codes ": hooked\n"
run_line words TurnsOut = codes "turns out\n"
run_line words (Undefined unit at point) = undefined_line (unit_name words 4 unit) at (number_of_point point)

abbrev pub line_of : Words → JudgeStop → List ℕ
line_of words (Compile stop) = compiling.line_of words 4 stop
line_of words (Run stop) = run_line words stop

-- the word whose file a stop names is there
abbrev pub IsNamed : Words → JudgeStop → Type 0
IsNamed words (Compile stop) = compiling.IsNamed words stop
IsNamed words (Run stop) = Unit {0}

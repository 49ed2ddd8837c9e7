-- Why no number of steps is printed, its status and its line, passed on.
use Rattle.std.specs.Prelude.{ℕ, List, ◌++◌, codes}
use Rattle.std.specs.Fmt.{decimal}
use Rattle.ec_steps.specs.declared.stop.BoundStop.{BoundStop}
use Rattle.ec_steps.specs.declared.stop.BoundStop.TheVariants.{LoopNotCounted, BoundTooLarge, NoMemory}
use Rattle.ec_commands.specs.Words.{Words}
use Rattle.ec_commands_compile.specs.Stops as compiling
use Rattle.ec_commands_compile.specs.Stops.{memory_line, unit_name}
use Rattle.ec_commands_bound.specs.declared.stop.StepsStop.{StepsStop}
use Rattle.ec_commands_bound.specs.declared.stop.StepsStop.TheVariants.{Compile, Bound}

abbrev pub bound_status : BoundStop → ℕ
bound_status (LoopNotCounted unit token) = 16
bound_status BoundTooLarge = 17
bound_status NoMemory = 11

abbrev pub status_of : StepsStop → ℕ
status_of (Compile stop) = compiling.status_of stop
status_of (Bound stop) = bound_status stop

-- of a text with this name
abbrev pub loop_line : List ℕ → (token : ℕ) → List ℕ
loop_line name token = name ++ codes " token " ++ decimal token ++ codes ": loop not counted\n"

-- of a program whose sources are named from this word on
abbrev pub bound_line : Words → ℕ → BoundStop → List ℕ
bound_line words first (LoopNotCounted unit token) = loop_line (unit_name words first unit) token
bound_line words first BoundTooLarge = codes "bound too large\n"
bound_line words first NoMemory = memory_line

abbrev pub line_of : Words → ℕ → StepsStop → List ℕ
line_of words first (Compile stop) = compiling.line_of words first stop
line_of words first (Bound stop) = bound_line words first stop

-- the word whose file a stop names is there
abbrev pub IsNamed : Words → StepsStop → Type 0
IsNamed words (Compile stop) = compiling.IsNamed words stop
IsNamed words (Bound stop) = Unit {0}

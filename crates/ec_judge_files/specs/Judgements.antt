-- What a judgement of the program of files does, and when each stop comes.
use Rattle.std.specs.Prelude.{ℕ, ◌≡◌, ◌≤◌, ◌⊎◌, List, map, Option, Some}
use Rattle.ec_io.specs.Disk.{Disk}
use Rattle.ec_io.specs.Views.{StoreView, SinkCall}
use Rattle.ec_emu.specs.declared.script.ScriptLine.{ScriptLine}
use Rattle.ec_emu.specs.Script.{entry_of}
use Rattle.ec_build.specs.declared.building.Built.{Built}
use Rattle.ec_commands.specs.Words.{Words, words_from}
use Rattle.ec_commands_compile.specs.Execs.{IsExecRead, StopsBeforeRun}
use Rattle.ec_judge_runs.specs.declared.stop.RunStop.{RunStop}
use Rattle.ec_judge_runs.specs.Judged.{Judges, FitsRun}
use Rattle.ec_judge_files.specs.declared.stop.JudgeStop.{JudgeStop}
use Rattle.ec_judge_files.specs.declared.stop.JudgeStop.TheVariants.{Compile, Run}

-- The program of the named sources was built by the named map, and its run is judged, on what the named script says
pub record Judged (words : Words) (turns : ℕ) (disk : Option Disk) (out : SinkCall) (stop : Option RunStop) : Type 0
  where
    pub built : Built
    pub answers : List ScriptLine
    pub read : IsExecRead words 4 disk built answers
    pub judges : Judges built.program built.map.io (map entry_of answers) turns out stop

-- why nothing is judged, as an exec does not run; or how the run came out. `out` receives nothing before the run
abbrev pub JudgeStops : Words → ℕ → StoreView → StoreView → SinkCall → JudgeStop → Type 0
JudgeStops words turns old new out (Compile stop) = StopsBeforeRun words 4 old new stop × (out.after ≡ out.before)
JudgeStops words turns old new out (Run stop) = (words_from words 4 ≤ 16) × Judged words turns old.disk out (Some stop)

-- what is printed has at most so many bytes
abbrev pub FitsJudged : Words → ℕ → Option Disk → ℕ → Type 0
FitsJudged words turns disk room =
    (built : Built) (answers : List ScriptLine) → IsExecRead words 4 disk built answers
    → FitsRun built.program built.map.io (map entry_of answers) turns room

-- out of memory, or what is told of a program that was built: a hooked port, no more turns, an undefined point
abbrev pub IsJudgedStatus : ℕ → Type 0
IsJudgedStatus status = (status ≡ 11) ⊎ ((status ≡ 12) ⊎ ((status ≡ 14) ⊎ (status ≡ 20)))

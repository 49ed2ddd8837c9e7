-- What `watch` does: the run of what was built, up to a watched number, what `out` receives of it, and when each stop
-- comes.
use Rattle.std.specs.Prelude.{ℕ, ℤ, ◌≤◌, ◌<◌, ◌≡◌, ◌⊎◌, Bool, List, length, Option, Some}
use Rattle.ec_io.specs.Causes.{Rose}
use Rattle.ec_io.specs.Disk.{Disk}
use Rattle.ec_io.specs.Views.{StoreView, SinkCall}
use Rattle.ec_avr.specs.declared.machine.Access.{Access}
use Rattle.ec_avr.specs.Machine.{State, IsReset, reset_with}
use Rattle.ec_core.specs.declared.arithmetic_types.Arithmetic.{Arithmetic}
use Rattle.ec_core.specs.Layout.{PlainLeaf}
use Rattle.ec_core.specs.Plain.{PlainProgram, plain_program}
use Rattle.ec_emu.specs.declared.script.ScriptLine.{ScriptLine}
use Rattle.ec_emu.specs.Scripted.{IsScripted}
use Rattle.ec_emu_watch.specs.Compares.{compares}
use Rattle.ec_emu_watch.specs.Hits.{IsWatched}
use Rattle.ec_emu_watch.specs.declared.compare.Compare.{Compare}
use Rattle.ec_emu_watch.specs.declared.point.WatchPoint.{WatchPoint}
use Rattle.ec_emu_watch.specs.declared.run.WatchReport.{WatchReport}
use Rattle.ec_build.specs.declared.building.Built.{Built}
use Rattle.ec_watch_points.specs.Numbers.{IsNumber, IsPointOf}
use Rattle.ec_commands.specs.Answers.{IsLeft}
use Rattle.ec_commands.specs.Runs.{Gives}
use Rattle.ec_commands.specs.Words.{Words, word, words_from}
use Rattle.ec_commands.specs.declared.stop.Limit.TheVariants.{Sources}
use Rattle.ec_commands.specs.declared.stop.CommandError.{CommandError}
use Rattle.ec_commands.specs.declared.stop.CommandError.TheVariants.{TooMany, NoMemory, CannotWrite, NoNumber}
use Rattle.ec_commands_compile.specs.Execs.{IsExecRead, StopsLoadingExec}
use Rattle.ec_commands_compile.specs.declared.stop.CompileStop.{CompileStop}
use Rattle.ec_commands_compile.specs.declared.stop.CompileStop.TheVariants.{Command, Build}
use Rattle.ec_commands_watch.specs.Kept.{KeepsSourceOf}
use Rattle.ec_commands_watch.specs.Printed.{printed, Shows}

-- ---- the number

abbrev pub number_name : Words → List ℕ
number_name words = word words 4

-- NAME and LEAF name a number of a program that can be watched: a leaf of integer or fixed-point type, counted from 0, of
-- the external static object of that name in the data bank. LEAF is at most 4,294,967,295
pub record NamesNumber (words : Words) (leaf : ℕ) (p : PlainProgram) : Type 0 where
  pub small : leaf ≤ 4294967295
  pub object : ℕ
  pub stands : PlainLeaf
  pub ty : Arithmetic
  pub is : IsNumber p (number_name words) leaf object stands ty

-- ---- the run

-- the values that OP and VALUE watch for
abbrev pub watched_by : Compare → ℤ → Bool
watched_by rule n = compares rule.op n rule.value

-- The words name a number of what was built, of which this is the point. The script keeps its rules and says these
-- answers, and the machine is in the reset state with 165 everywhere
pub record IsWatchLoaded (words : Words) (leaf : ℕ) (disk : Option Disk) (built : Built) (point : WatchPoint)
    (machine : State) (answers : List ScriptLine) : Type 0 where
  pub read : IsExecRead words 8 disk built answers
  pub small : leaf ≤ 4294967295
  pub number : IsPointOf (plain_program built.program) built.located.places.items (number_name words) leaf point
  pub reset : machine ≡ reset_with built.located.image.core built.located.image.bytes.items 165
  pub is_reset : IsReset built.located.image.core built.located.image.bytes.items machine

-- It ran, with hooks that give such answers, up to the first hit behind the call of main: a step that writes the last
-- byte of the number and leaves a watched value there. Without one it ran as by `exec`
pub record IsWatchRun (words : Words) (steps leaf : ℕ) (rule : Compare) (hooks : Gives) (disk : Option Disk)
    (built : Built) (point : WatchPoint) (report : WatchReport) (trace : List Access) : Type 0 where
  pub machine : State
  pub answers : List ScriptLine
  pub loaded : IsWatchLoaded words leaf disk built point machine answers
  pub after : State
  pub runs : IsWatched point (watched_by rule) (IsScripted hooks answers) steps machine after report trace

-- the run, and what was shown of it. Where the source is defined on inputs that begin with the bytes that were read, the
-- run keeps it
pub record Watched (words : Words) (steps leaf : ℕ) (rule : Compare) (hooks : Gives) (disk : Option Disk) (out : SinkCall)
    (stop : Option CommandError) : Type 0 where
  pub built : Built
  pub point : WatchPoint
  pub report : WatchReport
  pub trace : List Access
  pub ran : IsWatchRun words steps leaf rule hooks disk built point report trace
  pub shows : Shows out.before out.after report.end trace stop
  pub keeps : KeepsSourceOf built point (watched_by rule) steps trace report.end

-- the text that the run prints has at most so many bytes
abbrev pub FitsWatch : Words → (steps leaf : ℕ) → Compare → Gives → Option Disk → ℕ → Type 0
FitsWatch words steps leaf rule hooks disk room =
    (built : Built) (point : WatchPoint) (report : WatchReport) (trace : List Access)
    → IsWatchRun words steps leaf rule hooks disk built point report trace → length (printed report.end trace) ≤ room

-- ---- when each answer other than 0 comes; none but out of memory comes where an earlier one has its cause

-- there is an image, and the script keeps its rules, but NAME and LEAF name no number of the program
pub record HasNoNumber (words : Words) (leaf : ℕ) (disk : Option Disk) : Type 0 where
  pub built : Built
  pub answers : List ScriptLine
  pub read : IsExecRead words 8 disk built answers
  pub none : ¬ (NamesNumber words leaf (plain_program built.program))

-- memory ran out, or NAME and LEAF name no number of a program
abbrev pub StopsNumber : Words → (leaf : ℕ) → PlainProgram → CompileStop → Type 0
StopsNumber words leaf p (Command NoMemory) = Unit {0}
StopsNumber words leaf p (Command NoNumber) = ¬ (NamesNumber words leaf p)
StopsNumber words leaf p stop = ⊥

-- why nothing runs, where there are at most 16 sources
abbrev pub StopsLoadingWatch : Words → (leaf : ℕ) → StoreView → StoreView → CompileStop → Type 0
StopsLoadingWatch words leaf old new (Command NoNumber) = HasNoNumber words leaf old.disk
StopsLoadingWatch words leaf old new stop = StopsLoadingExec words 8 old new stop

-- why nothing runs
abbrev pub StopsBeforeWatch : Words → (leaf : ℕ) → StoreView → StoreView → CompileStop → Type 0
StopsBeforeWatch words leaf old new (Command (TooMany Sources)) = 16 < words_from words 8
StopsBeforeWatch words leaf old new stop = (words_from words 8 ≤ 16) × StopsLoadingWatch words leaf old new stop

-- how a run that was made stops
abbrev pub StopsWatching : Words → (steps leaf : ℕ) → Compare → Gives → Option Disk → SinkCall → CompileStop → Type 0
StopsWatching words steps leaf rule hooks disk out (Command stop) =
    (words_from words 8 ≤ 16) × Watched words steps leaf rule hooks disk out (Some stop)
    × (stop ≡ CannotWrite → Rose out.faults_before out.faults_after)
StopsWatching words steps leaf rule hooks disk out (Build stop) = ⊥

-- `out` receives nothing before the run
abbrev pub WatchStops : Words → (steps leaf : ℕ) → Compare → Gives → StoreView → StoreView → SinkCall → CompileStop
    → Type 0
WatchStops words steps leaf rule hooks old new out stop =
    (StopsBeforeWatch words leaf old new stop × (out.after ≡ out.before))
    ⊎ StopsWatching words steps leaf rule hooks old.disk out stop

-- out of memory, a name and a leaf of no number, or how a run that was made ends: at a fault of the machine, or after its
-- steps
abbrev pub IsUnwatched : ℕ → Type 0
IsUnwatched status = (status ≡ 15) ⊎ IsLeft status

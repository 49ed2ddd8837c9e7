-- What `exec` does: the run of what was built, what `out` receives of it, and when each stop comes. What is read, built and
-- refused is said of sources that are named from one word on: of those of `watch` too.
use Rattle.std.specs.Prelude.{ℕ, ◌≤◌, ◌<◌, ◌≡◌, ◌⊎◌, List, map, length, Option, Some, None}
use Rattle.ec_io.specs.Causes.{Rose}
use Rattle.ec_io.specs.Disk.{Files, Disk}
use Rattle.ec_io.specs.Views.{StoreView, SinkCall}
use Rattle.ec_avr.specs.declared.machine.Access.{Access}
use Rattle.ec_avr.specs.Machine.{State, IsReset, reset_with}
use Rattle.ec_emu.specs.declared.run.EmuReport.{EmuReport}
use Rattle.ec_emu.specs.declared.script.ScriptLine.{ScriptLine}
use Rattle.ec_emu.specs.Emulation.{IsRun as IsRunOf}
use Rattle.ec_emu.specs.Script.{AreKept, entries, entry_of, forms_of}
use Rattle.ec_emu.specs.Scripted.{IsScripted}
use Rattle.ec_map.specs.declared.map.Map.{Map}
use Rattle.ec_build.specs.Builds.{IsBuilt}
use Rattle.ec_build.specs.Causes.{HasCause}
use Rattle.ec_build.specs.MapTexts.{IsMapText}
use Rattle.ec_build.specs.declared.building.Built.{Built}
use Rattle.ec_build.specs.declared.stop.BuildStop.{BuildStop}
use Rattle.ec_commands.specs.Runs.{Gives, Shows, printed, HasScriptFault}
use Rattle.ec_commands.specs.Shown.{Told}
use Rattle.ec_commands.specs.Words.{Words, words_from}
use Rattle.ec_commands.specs.declared.stop.Limit.TheVariants.{Sources}
use Rattle.ec_commands.specs.declared.stop.CommandError.{CommandError}
use Rattle.ec_commands.specs.declared.stop.CommandError.TheVariants.{TooMany, NoMemory, CannotWrite}
use Rattle.ec_commands.specs.declared.stop.CommandError.TheVariants.{ScriptLine as BadScriptLine}
use Rattle.ec_commands_compile.specs.Inputs.{AreExecInputs, StopsReadingExec}
use Rattle.ec_commands_compile.specs.Builds.{AreAccepted}
use Rattle.ec_commands_compile.specs.Kept.{KeepsSourceOf}
use Rattle.ec_commands_compile.specs.declared.stop.CompileStop.{CompileStop}
use Rattle.ec_commands_compile.specs.declared.stop.CompileStop.TheVariants.{Command, Build}

-- ---- the run

-- what was read, and built of it: the program of the sources, placed by the map
pub record IsExecBuilt (words : Words) (first : ℕ) (disk : Option Disk) (lines : List ℕ) (b : Built) : Type 0 where
  pub map : List ℕ
  pub sources : List (List ℕ)
  pub inputs : Told (AreExecInputs words first map lines sources) disk
  pub built : IsBuilt sources map b

-- so is the script, which keeps the rules for the core of the map and says these answers
pub record IsExecRead (words : Words) (first : ℕ) (disk : Option Disk) (b : Built) (answers : List ScriptLine) : Type 0
  where
    pub lines : List ℕ
    pub from : IsExecBuilt words first disk lines b
    pub kept : AreKept b.map.core (forms_of lines)
    pub scripted : map entry_of answers ≡ entries (forms_of lines)

-- its machine is in the reset state with 165 everywhere, and the script says these answers
pub record IsExecLoaded (words : Words) (disk : Option Disk) (machine : State) (answers : List ScriptLine) : Type 0
  where
    pub lines : List ℕ
    pub built : Built
    pub from : IsExecBuilt words 4 disk lines built
    pub reset : machine ≡ reset_with built.located.image.core built.located.image.bytes.items 165
    pub is_reset : IsReset built.located.image.core built.located.image.bytes.items machine
    pub kept : AreKept built.map.core (forms_of lines)
    pub scripted : map entry_of answers ≡ entries (forms_of lines)

-- The run of it, with hooks that give such answers, and what was shown of it. Where the source is defined on inputs
-- that begin with the bytes that were read, the run keeps it
pub record Executed (words : Words) (steps : ℕ) (hooks : Gives) (disk : Option Disk) (out : SinkCall)
    (stop : Option CommandError) : Type 0 where
  pub machine : State
  pub answers : List ScriptLine
  pub loaded : IsExecLoaded words disk machine answers
  pub after : State
  pub report : EmuReport
  pub trace : List Access
  pub runs : IsRunOf (IsScripted hooks answers) steps machine after report trace
  pub shows : Shows out.before out.after report.end trace stop
  pub keeps : KeepsSourceOf loaded.built steps report.end trace

-- the text that the run prints has at most so many bytes
abbrev pub FitsExec : Words → ℕ → Gives → Option Disk → ℕ → Type 0
FitsExec words steps hooks disk room =
    (machine after : State) (answers : List ScriptLine) (report : EmuReport) (trace : List Access)
    → IsExecLoaded words disk machine answers → IsRunOf (IsScripted hooks answers) steps machine after report trace
    → length (printed report.end trace) ≤ room

-- ---- when each answer other than 0 comes; none but out of memory comes where an earlier one has its cause

-- the map and the sources that were read are refused for this
pub record IsExecRefused (words : Words) (first : ℕ) (disk : Option Disk) (stop : BuildStop) : Type 0 where
  pub map : List ℕ
  pub lines : List ℕ
  pub sources : List (List ℕ)
  pub inputs : Told (AreExecInputs words first map lines sources) disk
  pub cause : HasCause sources map stop

-- there is an image, and a line of the script is the first to break a rule for the core of the map
pub record HasBadScript (words : Words) (first : ℕ) (disk : Option Disk) (stop : CommandError) : Type 0 where
  pub lines : List ℕ
  pub built : Built
  pub from : IsExecBuilt words first disk lines built
  pub fault : HasScriptFault built.map.core lines stop

-- why nothing runs, where there are at most 16 sources
abbrev pub StopsLoadingExec : Words → ℕ → StoreView → StoreView → CompileStop → Type 0
StopsLoadingExec words first old new (Build stop) = IsExecRefused words first old.disk stop
StopsLoadingExec words first old new (Command NoMemory) = Unit {0}
StopsLoadingExec words first old new (Command (BadScriptLine line rule)) =
    HasBadScript words first old.disk (BadScriptLine line rule)
StopsLoadingExec words first old new (Command stop) = StopsReadingExec words first old new stop

-- why nothing runs
abbrev pub StopsBeforeRun : Words → ℕ → StoreView → StoreView → CompileStop → Type 0
StopsBeforeRun words first old new (Command (TooMany Sources)) = 16 < words_from words first
StopsBeforeRun words first old new stop = (words_from words first ≤ 16) × StopsLoadingExec words first old new stop

-- how a run that was made stops
abbrev pub StopsExecuting : Words → ℕ → Gives → Option Disk → SinkCall → CompileStop → Type 0
StopsExecuting words steps hooks disk out (Command stop) =
    (words_from words 4 ≤ 16) × Executed words steps hooks disk out (Some stop)
    × (stop ≡ CannotWrite → Rose out.faults_before out.faults_after)
StopsExecuting words steps hooks disk out (Build stop) = ⊥

-- `out` receives nothing before the run
abbrev pub ExecStops : Words → ℕ → Gives → StoreView → StoreView → SinkCall → CompileStop → Type 0
ExecStops words steps hooks old new out stop =
    (StopsBeforeRun words 4 old new stop × (out.after ≡ out.before)) ⊎ StopsExecuting words steps hooks old.disk out stop

-- ---- what is accepted

-- nothing stands against the named map and sources, and the script is within its limit and keeps the rules for the core of
-- the map
pub record AreExecAccepted (words : Words) (first : ℕ) (files : Files) : Type 0 where
  pub build : AreAccepted words first files
  pub lines : List ℕ
  pub inputs : AreExecInputs words first build.map lines build.sources files
  pub kept : (m : Map) → IsMapText build.map m → AreKept m.core (forms_of lines)

-- the store told its files, and they are accepted
abbrev pub AcceptsExec : Words → ℕ → Option Disk → Type 0
AcceptsExec words first None = ⊥
AcceptsExec words first (Some disk) = AreExecAccepted words first disk.files

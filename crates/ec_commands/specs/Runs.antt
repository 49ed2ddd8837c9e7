-- What `run` does: the machine's run, what `out` receives of it, and when each stop comes.
use Rattle.std.specs.Prelude.{ℕ, ℤ, ◌+◌, ◌≤◌, ◌≡◌, ◌≢◌, ◌⊎◌, List, ◌++◌, Bool, Option, Some, None, Result, Ok, Err}
use Rattle.std.specs.Prelude.{length, map, take, codes}
use Rattle.std.specs.Fmt.{signed_decimal}
use Rattle.std.specs.FinMap.{get}
use Rattle.std.specs.Io.KnownBytes.{Appends}
use Rattle.ec_space.specs.declared.Core.{Core}
use Rattle.ec_io.specs.Causes.{Rose, Counted}
use Rattle.ec_io.specs.Disk.{Files, Disk}
use Rattle.ec_io.specs.Views.{StoreView, SinkCall}
use Rattle.ec_io.specs.declared.store.Failed.{Failed}
use Rattle.ec_avr.specs.declared.machine.Access.{Access}
use Rattle.ec_avr.specs.Machine.{State, reset_with}
use Rattle.ec_hex.specs.Denotes.{Denotes}
use Rattle.ec_hex.specs.Stops as hex
use Rattle.ec_hex.specs.declared.read.HexStop.{HexStop}
use Rattle.ec_hex.specs.declared.read.HexStop.TheVariants as hex_stops
use Rattle.ec_emu.specs.declared.ask.Ask.{Ask}
use Rattle.ec_emu.specs.declared.run.EmuEnd.{EmuEnd}
use Rattle.ec_emu.specs.declared.run.EmuEnd.TheVariants as ends
use Rattle.ec_emu.specs.declared.run.EmuReport.{EmuReport}
use Rattle.ec_emu.specs.declared.script.ScriptLine.{ScriptLine}
use Rattle.ec_emu.specs.declared.read.ScriptStop.TheVariants as script_stops
use Rattle.ec_emu.specs.Emulation.{IsRun as IsRunOf, CutsLast}
use Rattle.ec_emu.specs.Lines.{port_lines}
use Rattle.ec_emu.specs.Script as script
use Rattle.ec_emu.specs.Script.{AreKept, core_of_text, entries, entry_of, forms_of}
use Rattle.ec_emu.specs.Scripted.{IsScripted}
use Rattle.ec_commands.specs.declared.stop.Limit.TheVariants.{HexBytes, ScriptBytes}
use Rattle.ec_commands.specs.declared.stop.CommandError.{CommandError}
use Rattle.ec_commands.specs.declared.stop.CommandError.TheVariants as stops
use Rattle.ec_commands.specs.Shown.{Told, IsWithin, IsPast, IsUnread}
use Rattle.ec_commands.specs.Tells.{WritesPrefix}
use Rattle.ec_commands.specs.Words.{Words, hex_name, script_name}

-- which bytes the hooks may answer at an ask
abbrev pub Gives : Type 1
Gives = Ask → ℕ → Type 0

-- these are the texts of the HEX file and of the script, within their limits
pub record AreInputs (words : Words) (disk : Option Disk) (text lines : List ℕ) : Type 0 where
  pub hex : Told (λ files. get files (hex_name words) ≡ Some text) disk
  pub hex_fits : length text ≤ 1048576
  pub script : Told (λ files. get files (script_name words) ≡ Some lines) disk
  pub script_fits : length lines ≤ 65536

-- the HEX text denotes an image of the core that the script is for, the machine is in its reset state with this byte
-- everywhere, and the script says these answers
pub record IsLoaded (fill : ℕ) (text lines : List ℕ) (machine : State) (answers : List ScriptLine) : Type 0 where
  pub bytes : List ℕ
  pub written : List Bool
  pub denotes : Denotes (core_of_text lines) text bytes written
  pub reset : machine ≡ reset_with (core_of_text lines) bytes fill
  pub kept : AreKept (core_of_text lines) (forms_of lines)
  pub scripted : map entry_of answers ≡ entries (forms_of lines)

-- `result`, the result in decimal, and LF
abbrev pub result_line : ℤ → List ℕ
result_line n = codes "result " ++ signed_decimal n ++ codes "\n"

-- what a run prints: a line for each access of a port, and at BREAK the result
abbrev pub end_line : EmuEnd → List ℕ
end_line (ends.Ended n) = result_line n
end_line ends.StepsOut = codes ""
end_line (ends.Fault kind pc) = codes ""
end_line ends.WriteFault = codes ""

abbrev pub printed : EmuEnd → List Access → List ℕ
printed end trace = port_lines trace ++ end_line end

-- what `out` received of a run, and the stop that tells its end: all that it prints, or a prefix of it after a failed
-- write
abbrev pub Shows : Option (List ℕ) → Option (List ℕ) → EmuEnd → List Access → Option CommandError → Type 0
Shows old new (ends.Ended n) trace None = Appends old new (printed (ends.Ended n) trace)
Shows old new (ends.Ended n) trace (Some stops.CannotWrite) =
    (m : ℕ) × Appends old new (port_lines trace ++ take m (result_line n))
Shows old new ends.WriteFault trace (Some stops.CannotWrite) = CutsLast old new trace
Shows old new ends.StepsOut trace (Some stops.StepsOut) = Appends old new (printed ends.StepsOut trace)
Shows old new (ends.Fault kind pc) trace (Some (stops.Fault k p)) =
    (k ≡ kind) × (p ≡ pc) × Appends old new (printed (ends.Fault kind pc) trace)
Shows old new end trace stop = ⊥

-- what writing the end of a run did: where it ended, the line of its result went out, or a prefix of it; else nothing
abbrev pub WritesEnd : Option (List ℕ) → Option (List ℕ) → EmuEnd → Result Unit Failed → Type 0
WritesEnd old new (ends.Ended n) r = WritesPrefix old new r (result_line n)
WritesEnd old new end r = (new ≡ old) × (r ≡ Ok tt)

-- the stop that tells the end of a run, none at BREAK
abbrev pub stop_at : EmuEnd → Option CommandError
stop_at (ends.Ended n) = None
stop_at ends.StepsOut = Some stops.StepsOut
stop_at (ends.Fault kind pc) = Some (stops.Fault kind pc)
stop_at ends.WriteFault = Some stops.CannotWrite

-- the stop of a command that answered this
abbrev pub stop_of : Result Unit CommandError → Option CommandError
stop_of (Ok x) = None
stop_of (Err stop) = Some stop

-- the run of the named files, from the machine and the script that they hold, with hooks that give such answers, and
-- what was shown of it
pub record Ran (words : Words) (steps fill : ℕ) (hooks : Gives) (disk : Option Disk) (out : SinkCall)
    (stop : Option CommandError) : Type 0 where
  pub text : List ℕ
  pub lines : List ℕ
  pub inputs : AreInputs words disk text lines
  pub machine : State
  pub answers : List ScriptLine
  pub loaded : IsLoaded fill text lines machine answers
  pub after : State
  pub report : EmuReport
  pub trace : List Access
  pub runs : IsRunOf (IsScripted hooks answers) steps machine after report trace
  pub shows : Shows out.before out.after report.end trace stop

-- the text that the run prints has at most so many bytes
abbrev pub Fits : Words → ℕ → ℕ → Gives → Option Disk → ℕ → Type 0
Fits words steps fill hooks disk room =
    (text lines : List ℕ) (machine after : State) (answers : List ScriptLine) (report : EmuReport) (trace : List Access)
    → AreInputs words disk text lines
    → IsLoaded fill text lines machine answers → IsRunOf (IsScripted hooks answers) steps machine after report trace
    → length (printed report.end trace) ≤ room

-- ---- when each answer other than 0 comes

-- why the files are not read
abbrev pub StopsReadingInputs : Words → StoreView → StoreView → CommandError → Type 0
StopsReadingInputs words old new (stops.CannotRead i) =
    ((i ≡ 1) × IsUnread (hex_name words) old new)
    ⊎ ((i ≡ 2) × IsUnread (script_name words) old new × Told (IsWithin (hex_name words) 1048576) old.disk)
StopsReadingInputs words old new (stops.TooMany HexBytes) =
    Told (IsPast (hex_name words) 1048576) old.disk × Counted old.received new.received (1048576 + 1)
StopsReadingInputs words old new (stops.TooMany ScriptBytes) =
    Told (λ files. IsWithin (hex_name words) 1048576 files × IsPast (script_name words) 65536 files) old.disk
    × ((n : ℕ) × ((n ≤ 1048576) × Counted old.received new.received (n + (65536 + 1))))
StopsReadingInputs words old new stop = ⊥

-- a fault of a HEX text as a stop
abbrev pub hex_stop : HexStop → CommandError
hex_stop (hex_stops.BadRecord line) = stops.BadRecord line
hex_stop (hex_stops.BadSum line) = stops.BadSum line
hex_stop (hex_stops.OutOfFlash line) = stops.OutOfFlash line
hex_stop (hex_stops.Twice line) = stops.Twice line
hex_stop hex_stops.NoEnd = stops.NoEnd
hex_stop hex_stops.NoMemory = stops.NoMemory

-- the HEX text has this fault, and denotes no image of the core
pub record HasHexFault (core : Core) (text : List ℕ) (stop : CommandError) : Type 0 where
  pub why : HexStop
  pub told : stop ≡ hex_stop why
  pub other : why ≢ hex_stops.NoMemory
  pub fault : hex.HasStop core text why
  pub none : (bytes : List ℕ) (written : List Bool) → ¬ (Denotes core text bytes written)

-- a line of the script for a core is the first to break a rule
pub record HasScriptFault (core : Core) (lines : List ℕ) (stop : CommandError) : Type 0 where
  pub line : ℕ
  pub rule : ℕ
  pub told : stop ≡ stops.ScriptLine line rule
  pub fault : script.IsNoScript core lines (script_stops.Line line rule)

-- why the texts are not loaded: the HEX text has a fault; or it has none, and the script has one
abbrev pub HasTextFault : List ℕ → List ℕ → CommandError → Type 0
HasTextFault text lines stop =
    HasHexFault (core_of_text lines) text stop
    ⊎ (((bytes : List ℕ) × ((written : List Bool) × Denotes (core_of_text lines) text bytes written))
    × HasScriptFault (core_of_text lines) lines stop)

-- why nothing runs
abbrev pub StopsLoading : Words → StoreView → StoreView → CommandError → Type 0
StopsLoading words old new stop =
    (stop ≡ stops.NoMemory) ⊎ (StopsReadingInputs words old new stop
    ⊎ ((text lines : List ℕ) × (AreInputs words old.disk text lines × HasTextFault text lines stop)))

-- how a run that was made stops
abbrev pub StopsRunning : Words → ℕ → ℕ → Gives → Option Disk → SinkCall → CommandError → Type 0
StopsRunning words steps fill hooks disk out stop =
    Ran words steps fill hooks disk out (Some stop)
    × (stop ≡ stops.CannotWrite → Rose out.faults_before out.faults_after)

-- none but out of memory comes where an earlier one has its cause, and `out` receives nothing before the run
abbrev pub RunStops : Words → ℕ → ℕ → Gives → StoreView → StoreView → SinkCall → CommandError → Type 0
RunStops words steps fill hooks old new out stop =
    (StopsLoading words old new stop × (out.after ≡ out.before)) ⊎ StopsRunning words steps fill hooks old.disk out stop

-- the store told its files: the HEX text and the script are within their limits, denote an image and keep the rules
pub record AcceptsRun (words : Words) (files : Files) : Type 0 where
  pub text : List ℕ
  pub hex : get files (hex_name words) ≡ Some text
  pub hex_fits : length text ≤ 1048576
  pub lines : List ℕ
  pub script : get files (script_name words) ≡ Some lines
  pub script_fits : length lines ≤ 65536
  pub image : (bytes : List ℕ) × ((written : List Bool) × Denotes (core_of_text lines) text bytes written)
  pub kept : AreKept (core_of_text lines) (forms_of lines)

abbrev pub CanRun : Words → Option Disk → Type 0
CanRun words None = ⊥
CanRun words (Some disk) = AcceptsRun words disk.files

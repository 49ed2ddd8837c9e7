-- A run that was loaded and made.
use Rattle.std.proofs.Common.{◌≡◌, ◌≤◌, ℕ, List, Some, inl, inr}
use Rattle.std.specs.Prelude.{Option}
use Rattle.ec_io.specs.Causes.{Rose}
use Rattle.ec_io.specs.Disk.{Disk}
use Rattle.ec_io.specs.Views.{StoreView, SinkCall}
use Rattle.ec_avr.specs.declared.machine.Access.{Access}
use Rattle.ec_avr.specs.Machine.{State}
use Rattle.ec_emu.specs.declared.run.EmuEnd.{EmuEnd}
use Rattle.ec_emu.specs.declared.run.EmuEnd.TheVariants as ends
use Rattle.ec_emu.specs.declared.run.EmuReport.{EmuReport}
use Rattle.ec_emu.specs.declared.script.ScriptLine.{ScriptLine}
use Rattle.ec_emu.specs.Emulation.{IsRun as IsRunOf}
use Rattle.ec_emu.specs.Scripted.{IsScripted}
use Rattle.ec_commands.specs.Answers.{IsLeft}
use Rattle.ec_commands.specs.Runs.{Gives, Shows}
use Rattle.ec_commands.specs.Stops as commands
use Rattle.ec_commands.specs.Words.{Words, words_from}
use Rattle.ec_commands.specs.declared.stop.CommandError.{CommandError}
use Rattle.ec_commands.specs.declared.stop.CommandError.TheVariants.{CannotWrite, StepsOut, Fault}
use Rattle.ec_commands.proofs.RunComplete.{shown_stop}
use Rattle.ec_commands_compile.proofs.Keeping.{keeps_source}
use Rattle.ec_commands_compile.specs.Execs.{IsExecLoaded, Executed, ExecStops}
use Rattle.ec_commands_compile.specs.declared.stop.CompileStop.TheVariants.{Command}

pub executed : (words : Words) (steps : ℕ) (hooks : Gives) (disk : Option Disk) (out : SinkCall) (stop : Option CommandError)
    (machine after : State) (answers : List ScriptLine) (report : EmuReport) (trace : List Access) → IsExecLoaded words disk machine answers
    → IsRunOf (IsScripted hooks answers) steps machine after report trace → Shows out.before out.after report.end trace stop
    → Executed words steps hooks disk out stop
executed words steps hooks disk out stop machine after answers report trace loaded runs shows = record {
  machine = machine;
  answers = answers;
  loaded = loaded;
  after = after;
  report = report;
  trace = trace;
  runs = runs;
  shows = shows;
  keeps = keeps_source loaded.from.sources loaded.from.map loaded.built
      (IsScripted hooks answers) steps machine after report trace loaded.from.built loaded.is_reset runs;
}

pub exec_stops : (words : Words) (steps : ℕ) (hooks : Gives) (old new : StoreView) (out : SinkCall) (stop : CommandError)
    → words_from words 4 ≤ 16
    → Executed words steps hooks old.disk out (Some stop) → (stop ≡ CannotWrite → Rose out.faults_before out.faults_after)
    → ExecStops words steps hooks old new out (Command stop)
exec_stops words steps hooks old new out stop few h rose = inr (few, h, rose)

-- what a run that was made is told to stop by names no file
pub stop_named : (words : Words) (old new : Option (List ℕ)) (end : EmuEnd) (trace : List Access) (stop : CommandError)
    → Shows old new end trace (Some stop) → commands.IsNamed words stop
stop_named words old new (ends.Ended n) trace CannotWrite h = tt
stop_named words old new (ends.Ended n) trace _ h = absurd h
stop_named words old new ends.WriteFault trace CannotWrite h = tt
stop_named words old new ends.WriteFault trace _ h = absurd h
stop_named words old new ends.StepsOut trace StepsOut h = tt
stop_named words old new ends.StepsOut trace _ h = absurd h
stop_named words old new (ends.Fault kind pc) trace (Fault k p) h = tt
stop_named words old new (ends.Fault kind pc) trace _ h = absurd h

-- how a run that was made stops, where no write failed
pub left_running : (words : Words) (steps : ℕ) (hooks : Gives) (disk : Option Disk) (out : SinkCall) (stop : CommandError)
    → ¬ (Rose out.faults_before out.faults_after)
    → Executed words steps hooks disk out (Some stop) → (stop ≡ CannotWrite → Rose out.faults_before out.faults_after)
    → IsLeft (commands.status_of stop)
left_running words steps hooks disk out stop calm h rose = elim (shown_stop out.before out.after h.report.end h.trace stop h.shows) [
  | inl e ↦ absurd (calm (rose e))
  | inr left ↦ left
]

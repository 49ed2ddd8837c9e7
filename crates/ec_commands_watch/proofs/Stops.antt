-- Why no watched run is made, and how one that was made stops.
use Rattle.std.proofs.Common.{◌≡◌, ◌≤◌, ℕ, List, Some, refl, inl, inr, ◌⊎◌}
use Rattle.std.specs.Prelude.{Option}
use Rattle.ec_io.specs.Causes.{Rose}
use Rattle.ec_io.specs.Disk.{Disk}
use Rattle.ec_io.specs.Views.{StoreView, SinkCall}
use Rattle.ec_avr.specs.declared.machine.Access.{Access}
use Rattle.ec_core.specs.Plain.{PlainProgram, plain_program}
use Rattle.ec_emu.specs.declared.script.ScriptLine.{ScriptLine}
use Rattle.ec_emu_watch.specs.declared.run.WatchEnd.{WatchEnd}
use Rattle.ec_emu_watch.specs.declared.run.WatchEnd.TheVariants.{Hit, Ended, StepsOut, Fault, WriteFault}
use Rattle.ec_emu_watch.specs.Hits.{emulated}
use Rattle.ec_emu_watch.specs.declared.compare.Compare.{Compare}
use Rattle.ec_build.specs.declared.building.Built.{Built}
use Rattle.ec_commands.specs.Answers.{IsLeft}
use Rattle.ec_commands.specs.Runs.{Gives}
use Rattle.ec_commands.specs.Stops as commands
use Rattle.ec_commands.specs.Words.{Words, words_from}
use Rattle.ec_commands.specs.declared.stop.Limit.TheVariants.{Sources}
use Rattle.ec_commands.specs.declared.stop.CommandError.{CommandError}
use Rattle.ec_commands.specs.declared.stop.CommandError.TheVariants.{TooMany, NoMemory, CannotWrite, NoNumber}
use Rattle.ec_commands.proofs.RunComplete.{shown_stop as run_stop}
use Rattle.ec_commands_compile.specs.Execs.{IsExecRead, StopsLoadingExec}
use Rattle.ec_commands_compile.specs.Stops.{status_of}
use Rattle.ec_commands_compile.specs.declared.stop.CompileStop.{CompileStop}
use Rattle.ec_commands_compile.specs.declared.stop.CompileStop.TheVariants.{Command}
use Rattle.ec_commands_watch.specs.Printed.{Shows}
use Rattle.ec_commands_watch.specs.Watches.{StopsNumber, StopsLoadingWatch, StopsBeforeWatch, IsUnwatched, Watched}

-- ---- before the run

pub reading_stops : (words : Words) (leaf : ℕ) (old new : StoreView) (stop : CompileStop) → StopsLoadingExec words 8 old new stop
    → StopsLoadingWatch words leaf old new stop
reading_stops words leaf old new (Command NoNumber) (inl h) = absurd h
reading_stops words leaf old new (Command NoNumber) (inr (inl h)) = absurd h
reading_stops words leaf old new (Command NoNumber) (inr (inr h)) = absurd h
reading_stops words leaf old new _ h = h

pub number_stops : (words : Words) (leaf : ℕ) (old new : StoreView) (b : Built) (answers : List ScriptLine) (stop : CompileStop)
    → IsExecRead words 8 old.disk b answers → StopsNumber words leaf (plain_program b.program) stop
    → StopsLoadingWatch words leaf old new stop
number_stops words leaf old new b answers (Command NoMemory) read h = tt
number_stops words leaf old new b answers (Command NoNumber) read h =
    record { built = b; answers = answers; read = read; none = h }
number_stops words leaf old new b answers _ read h = absurd h

pub number_left : (words : Words) (leaf : ℕ) (p : PlainProgram) (stop : CompileStop) → StopsNumber words leaf p stop
    → IsUnwatched (status_of stop)
number_left words leaf p (Command NoMemory) h = inr (inl refl)
number_left words leaf p (Command NoNumber) h = inl refl
number_left words leaf p _ h = absurd h

pub before_run : (words : Words) (leaf : ℕ) (old new : StoreView) (stop : CompileStop) → words_from words 8 ≤ 16
    → StopsLoadingWatch words leaf old new stop → StopsBeforeWatch words leaf old new stop
before_run words leaf old new (Command (TooMany Sources)) few (inl h) = let no = h.0 in cc
before_run words leaf old new (Command (TooMany Sources)) few (inr (inl h)) = absurd h
before_run words leaf old new (Command (TooMany Sources)) few (inr (inr h)) = absurd h
before_run words leaf old new _ few h = (few, h)

-- ---- a run that was made

pub shown_stop : (old new : Option (List ℕ)) (end : WatchEnd) (trace : List Access) (stop : CommandError)
    → Shows old new end trace (Some stop) → (stop ≡ CannotWrite) ⊎ IsLeft (commands.status_of stop)
shown_stop old new (Hit value) trace CannotWrite h = inl refl
shown_stop old new (Hit value) trace _ h = absurd h
shown_stop old new (Ended result) trace stop h = run_stop old new (emulated (Ended result)) trace stop h
shown_stop old new StepsOut trace stop h = run_stop old new (emulated StepsOut) trace stop h
shown_stop old new (Fault kind pc) trace stop h = run_stop old new (emulated (Fault kind pc)) trace stop h
shown_stop old new WriteFault trace stop h = run_stop old new (emulated WriteFault) trace stop h

-- how it stops, where no write failed
pub left_running : (words : Words) (steps leaf : ℕ) (rule : Compare) (hooks : Gives) (disk : Option Disk) (out : SinkCall) (stop : CommandError)
    → ¬ (Rose out.faults_before out.faults_after)
    → Watched words steps leaf rule hooks disk out (Some stop) → (stop ≡ CannotWrite → Rose out.faults_before out.faults_after)
    → IsUnwatched (commands.status_of stop)
left_running words steps leaf rule hooks disk out stop calm h rose =
    elim (shown_stop out.before out.after h.report.end h.trace stop h.shows) [
      | inl e ↦ absurd (calm (rose e))
      | inr left ↦ inr left
    ]

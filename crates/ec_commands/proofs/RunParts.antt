-- A run that was loaded and made.
use Rattle.std.proofs.Common.{ℕ, List, Result, Ok, Err, None, ap, inr}
use Rattle.std.specs.Prelude.{Option, OnOk, IfErr, IsErrOf}
use Rattle.ec_io.specs.Causes.{Rose}
use Rattle.ec_io.specs.Disk.{Disk}
use Rattle.ec_avr.specs.declared.machine.Access.{Access}
use Rattle.ec_avr.specs.Machine.{State}
use Rattle.ec_emu.specs.declared.run.EmuReport.{EmuReport}
use Rattle.ec_emu.specs.declared.script.ScriptLine.{ScriptLine}
use Rattle.ec_emu.specs.Emulation.{IsRun as IsRunOf}
use Rattle.ec_emu.specs.Scripted.{IsScripted}
use Rattle.ec_commands.specs.declared.stop.CommandError.{CommandError}
use Rattle.ec_commands.specs.declared.stop.CommandError.TheVariants.{CannotWrite}
use Rattle.ec_io.specs.Views.{StoreView, SinkCall}
use Rattle.ec_commands.specs.Runs.{Gives, AreInputs, IsLoaded, Shows, Ran, RunStops, stop_of}
use Rattle.ec_commands.specs.Words.{Words}

pub ran : (words : Words) (steps fill : ℕ) (hooks : Gives) (disk : Option Disk) (out : SinkCall) (stop : Option CommandError)
    (text lines : List ℕ)
    (machine after : State) (answers : List ScriptLine) (report : EmuReport) (trace : List Access) → AreInputs words disk text lines
    → IsLoaded fill text lines machine answers → IsRunOf (IsScripted hooks answers) steps machine after report trace
    → Shows out.before out.after report.end trace stop → Ran words steps fill hooks disk out stop
ran words steps fill hooks disk out stop text lines machine after answers report trace inputs loaded runs shows = record {
  text = text;
  lines = lines;
  inputs = inputs;
  machine = machine;
  answers = answers;
  loaded = loaded;
  after = after;
  report = report;
  trace = trace;
  runs = runs;
  shows = shows;
}

pub ran_whole : (words : Words) (steps fill : ℕ) (hooks : Gives) (disk : Option Disk) (out : SinkCall) (r : Result Unit CommandError)
    → Ran words steps fill hooks disk out (stop_of r) → OnOk r (Ran words steps fill hooks disk out None)
ran_whole words steps fill hooks disk out (Ok x) h = h
ran_whole words steps fill hooks disk out (Err e) h = tt

pub ran_stopped : (words : Words) (steps fill : ℕ) (hooks : Gives) (old new : StoreView) (out : SinkCall) (r : Result Unit CommandError)
    → Ran words steps fill hooks old.disk out (stop_of r) → (IsErrOf r CannotWrite → Rose out.faults_before out.faults_after)
    → IfErr r (RunStops words steps fill hooks old new out)
ran_stopped words steps fill hooks old new out (Ok x) h rose = tt
ran_stopped words steps fill hooks old new out (Err e) h rose = inr (h, λ is. rose (ap Err is))

-- A watched run that was loaded and made.
use Rattle.std.proofs.Common.{◌≡◌, ◌≤◌, ℕ, List, Some, inr, subst}
use Rattle.std.specs.Prelude.{Option}
use Rattle.ec_io.specs.Causes.{Rose}
use Rattle.ec_io.specs.Disk.{Disk}
use Rattle.ec_io.specs.Views.{StoreView, SinkCall}
use Rattle.ec_avr.specs.declared.machine.Access.{Access}
use Rattle.ec_avr.specs.Machine.{State}
use Rattle.ec_emu.specs.declared.script.ScriptLine.{ScriptLine}
use Rattle.ec_emu.specs.Scripted.{IsScripted}
use Rattle.ec_emu_watch.specs.Hits.{IsWatched}
use Rattle.ec_emu_watch.specs.declared.compare.Compare.{Compare}
use Rattle.ec_emu_watch.specs.declared.point.WatchPoint.{WatchPoint}
use Rattle.ec_emu_watch.specs.declared.run.WatchReport.{WatchReport}
use Rattle.ec_build.specs.declared.building.Built.{Built}
use Rattle.ec_watch.specs.Watches.{KeepsSource}
use Rattle.ec_commands.specs.Runs.{Gives}
use Rattle.ec_commands.specs.Words.{Words, words_from}
use Rattle.ec_commands.specs.declared.stop.CommandError.{CommandError}
use Rattle.ec_commands.specs.declared.stop.CommandError.TheVariants.{CannotWrite}
use Rattle.ec_commands_compile.specs.declared.stop.CompileStop.TheVariants.{Command}
use Rattle.ec_commands_watch.specs.Printed.{Shows}
use Rattle.ec_commands_watch.specs.Watches.{watched_by, IsWatchLoaded, IsWatchRun, Watched, WatchStops}
use Rattle.ec_commands_watch.proofs.Ports.{keeps_source}

-- what holds of a point and a rule holds of them by other names
pub as_named : (P : WatchPoint → Compare → Type 0) (p q : WatchPoint) (a b : Compare) → p ≡ q → a ≡ b → P p a → P q b
as_named P p q a b same rule h = subst (λ (x : WatchPoint). P x b) same (subst (λ (x : Compare). P p x) rule h)

module _ (words : Words) (steps leaf : ℕ) (rule : Compare) (hooks : Gives) where
  module _ (disk : Option Disk) (built : Built) (point : WatchPoint) (machine : State) (answers : List ScriptLine)
      (loaded : IsWatchLoaded words leaf disk built point machine answers) (after : State) (report : WatchReport) (trace : List Access)
      (runs : IsWatched point (watched_by rule) (IsScripted hooks answers) steps machine after report trace) where
    pub ran : IsWatchRun words steps leaf rule hooks disk built point report trace
    ran = record { machine = machine; answers = answers; loaded = loaded; after = after; runs = runs }

    pub watched : (out : SinkCall) (stop : Option CommandError) → Shows out.before out.after report.end trace stop
        → KeepsSource built point (watched_by rule) steps trace report.end → Watched words steps leaf rule hooks disk out stop
    watched out stop shows keeps = record {
      built = built;
      point = point;
      report = report;
      trace = trace;
      ran = ran;
      shows = shows;
      keeps = keeps_source point (watched_by rule) (IsScripted hooks answers) steps machine after trace built loaded.read.from.built.asm
          report loaded.read.from.built.image loaded.is_reset runs keeps;
    }

  pub run_stops : (old new : StoreView) (out : SinkCall) (stop : CommandError) → words_from words 8 ≤ 16
      → Watched words steps leaf rule hooks old.disk out (Some stop) → (stop ≡ CannotWrite → Rose out.faults_before out.faults_after)
      → WatchStops words steps leaf rule hooks old new out (Command stop)
  run_stops old new out stop few h rose = inr (few, h, rose)

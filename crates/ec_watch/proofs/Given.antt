-- A run is one whatever its ports may answer.
use Rattle.std.proofs.Common.{ℕ, ℤ, Bool, List}
use Rattle.ec_avr.specs.declared.machine.Access.{Access}
use Rattle.ec_avr.specs.State.{State}
use Rattle.ec_emu.specs.declared.ask.Ask.{Ask}
use Rattle.ec_emu.specs.declared.run.EmuReport.{EmuReport}
use Rattle.ec_emu.specs.Emulation.{IsRun}
use Rattle.ec_emu_watch.specs.declared.point.WatchPoint.{WatchPoint}
use Rattle.ec_emu_watch.specs.declared.run.WatchEnd.{WatchEnd}
use Rattle.ec_emu_watch.specs.declared.run.WatchEnd.TheVariants.{Hit, Ended, StepsOut, Fault, WriteFault}
use Rattle.ec_emu_watch.specs.declared.run.WatchReport.{WatchReport}
use Rattle.ec_emu_watch.specs.Hits.{emulation, IsWatchedBy, IsWatched}
use Rattle.ec_watch_laws.specs.Laws.{any_answer}

module _ (point : WatchPoint) (holds : ℤ → Bool) (gives : Ask → ℕ → Type 0) where
  run_given : (steps : ℕ) (old new : State) (report : EmuReport) (trace : List Access) → IsRun gives steps old new report trace
      → IsRun any_answer steps old new report trace
  run_given steps old new report trace r = record {
    within = r.within;
    given = λ n port byte e. tt;
    made = r.made;
    ended = r.ended;
    reads = r.reads;
    writes = r.writes;
  }

  by_end : (steps : ℕ) (old new : State) (report : EmuReport) (trace : List Access) (end : WatchEnd)
      → IsWatchedBy point holds gives steps old new report trace end → IsWatchedBy point holds any_answer steps old new report trace end
  by_end steps old new report trace (Hit value) w = (run_given _ old new report trace w.0, w.1)
  by_end steps old new report trace (Ended result) w = (run_given steps old new report trace w.0, w.1)
  by_end steps old new report trace StepsOut w = (run_given steps old new report trace w.0, w.1)
  by_end steps old new report trace (Fault kind pc) w = (run_given steps old new report trace w.0, w.1)
  by_end steps old new report trace WriteFault w = (run_given steps old new report trace w.0, w.1)

  pub whatever_was_given : (steps : ℕ) (old new : State) (report : WatchReport) (trace : List Access)
      → IsWatched point holds gives steps old new report trace → IsWatched point holds any_answer steps old new report trace
  whatever_was_given steps old new report trace w = by_end steps old new (emulation report) trace report.end w

use Rattle.std.proofs.Common.{◌≡◌, ◌∙◌, Bool, ℤ, pos, refl, sym, ap, subst}
use Rattle.std.specs.Prelude.{Option, unwrap_or}
use Rattle.ec_space.specs.Memory.{Memory}
use Rattle.ec_emu.specs.declared.run.EmuEnd.{EmuEnd}
use Rattle.ec_emu.specs.Emulation.{IsPrinted, SinkCalm, RunCause}
use Rattle.ec_emu_watch.specs.declared.point.WatchPoint.{WatchPoint}
use Rattle.ec_emu_watch.specs.declared.run.WatchEnd.{WatchEnd}
use Rattle.ec_emu_watch.specs.declared.run.WatchReport.{WatchReport}
use Rattle.ec_emu_watch.specs.Hits.{end_by}
use Rattle.ec_emu_watch.specs.Points.{value_at}
use Rattle.ec_emu_watch.specs.Sound.{point_of, rule_of}
use Rattle.ec_emu_watch.proofs.Hits.{ended_as, watched}
use Rattle.ec_emu_watch.proofs.run.run_watched.Goals as goal

-- the end is by the value that the machine holds
same_end : (stopped : Bool) (end : EmuEnd) (told : WatchEnd) (value : Option ℤ) (p q : WatchPoint) (m n : Memory)
    → told ≡ end_by stopped (unwrap_or value (pos 0)) end → value ≡ value_at p m → p ≡ q → m ≡ n
    → told ≡ end_by stopped (unwrap_or (value_at q n) (pos 0)) end
same_end stopped end told value p q m n e v f g =
    e ∙ ap (λ (x : Option ℤ). end_by stopped (unwrap_or x (pos 0)) end) (v ∙ ap (λ (x : WatchPoint). value_at x m) f ∙ ap (value_at q) g)

pub returns-clause-run : goal.returns-clause-run
returns-clause-run g c =
    let r = c.emulate_until-run.ensures.run in
    let run = c.emulate_until-run.result in
    let end = same_end run.stopped run.report.end c.end_of.result c.value.result c.point.result (point_of c.args.stop.now)
    c.memory.result.now c.emulate_until-run.new.machine.mem c.end_of.ensures c.value.ensures.value c.point.ensures c.memory.ensures in
    let report : WatchReport = record { end = c.end_of.result; reads = run.report.reads; writes = run.report.writes } in
    let w = watched (point_of c.args.stop.now) (g.R.ValueRule.holds (rule_of c.args.stop.now)) c.args.machine.now
    (g.P.Ports.gives c.args.ports.now) c.args.steps c.emulate_until-run.new.machine run r.0 (g.O.Sink.written c.args.sink.now)
    (g.O.Sink.written c.emulate_until-run.new.sink) r.1.1.1.0 r.1.0 report end refl refl in (
      r.0,
      (
        w.0,
        (
          r.1.1.0,
          (
            subst (λ (x : EmuEnd). IsPrinted (g.O.Sink.written c.args.sink.now) (g.O.Sink.written c.emulate_until-run.new.sink) x r.0)
                (sym w.1) r.1.1.1.0,
            (
              (λ room calm fits. subst (λ (x : EmuEnd). SinkCalm (g.O.Sink.faults c.args.sink.now)
                  (g.O.Sink.faults c.emulate_until-run.new.sink) (g.O.Sink.calm c.emulate_until-run.new.sink) room x r.0) (sym w.1)
                  (r.1.1.1.1.0 room calm fits)),
              r.1.1.1.1.1,
            ),
          ),
        ),
      ),
    )

pub returns-clause-cause : goal.returns-clause-cause
returns-clause-cause g c =
    let run = c.emulate_until-run.result in
    let end = same_end run.stopped run.report.end c.end_of.result c.value.result c.point.result (point_of c.args.stop.now)
    c.memory.result.now c.emulate_until-run.new.machine.mem c.end_of.ensures c.value.ensures.value c.point.ensures c.memory.ensures in
    subst (λ (x : EmuEnd). RunCause (g.O.Sink.faults c.args.sink.now) (g.O.Sink.faults c.emulate_until-run.new.sink) x)
    (sym (ended_as (point_of c.args.stop.now) (g.R.ValueRule.holds (rule_of c.args.stop.now)) c.args.machine.now
    (g.P.Ports.gives c.args.ports.now) c.args.steps c.emulate_until-run.new.machine run c.emulate_until-run.ensures.run.0
    c.end_of.result c.emulate_until-run.ensures.run.1.0 end)) c.emulate_until-run.ensures.cause

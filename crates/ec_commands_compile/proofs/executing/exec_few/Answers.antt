use Rattle.std.proofs.Common.{Err, refl, ap, inl}
use Rattle.ec_io.specs.Views.{store_view, sink_call}
use Rattle.ec_commands_compile.proofs.ReadingExec.{before_run}
use Rattle.ec_commands_compile.proofs.RunExec.{executed, exec_stops, stop_named, left_running}
use Rattle.ec_commands_compile.proofs.executing.exec_few.Goals as goal

pub returns-in-Err-clause-stopped : goal.returns-in-Err-clause-stopped
returns-in-Err-clause-stopped g c =
    inl (
      before_run c.args.words.now.items 4
          (store_view (g.S.Store.disk c.args.store.now) (g.S.Store.read_faults c.args.store.now) (g.S.Store.write_faults c.args.store.now)
          (g.S.Store.received c.args.store.now) (g.S.Store.missed c.args.store.now))
          (store_view (g.S.Store.disk c.load.new.store) (g.S.Store.read_faults c.load.new.store) (g.S.Store.write_faults c.load.new.store)
          (g.S.Store.received c.load.new.store) (g.S.Store.missed c.load.new.store))
          c.in-Err.stop c.requires.few c.in-Err.ensures.stopped,
      refl,
    )

pub returns-in-Err-clause-complete : goal.returns-in-Err-clause-complete
returns-in-Err-clause-complete g c = λ accepted calm out_calm. inl (c.in-Err.ensures.complete accepted calm)

pub returns-in-Ok-print_run-clause-ran : goal.returns-in-Ok-print_run-clause-ran
returns-in-Ok-print_run-clause-ran g c =
    let made = c.in-Ok-print_run.ensures.shown in
    executed _ _ _ _ _ _ _ _ _ made.0 made.1.0 c.in-Ok.ensures.found made.1.1.0 made.1.1.1.0

pub returns-in-Ok-print_run-clause-out_calm : goal.returns-in-Ok-print_run-clause-out_calm
returns-in-Ok-print_run-clause-out_calm g c = λ room calm fits.
    let made = c.in-Ok-print_run.ensures.shown in
    made.1.1.1.1 room calm (fits _ _ _ made.0 made.1.0 c.in-Ok.ensures.found made.1.1.0)

pub returns-clause-stopped : goal.returns-clause-stopped
returns-clause-stopped g c =
    let made = c.in-Err-print_run.ensures.shown in
    exec_stops _ _ _
    (store_view (g.S.Store.disk c.args.store.now) (g.S.Store.read_faults c.args.store.now) (g.S.Store.write_faults c.args.store.now)
    (g.S.Store.received c.args.store.now) (g.S.Store.missed c.args.store.now))
    (store_view (g.S.Store.disk c.load.new.store) (g.S.Store.read_faults c.load.new.store) (g.S.Store.write_faults c.load.new.store)
    (g.S.Store.received c.load.new.store) (g.S.Store.missed c.load.new.store))
    (sink_call (g.O.Sink.written c.args.out.now) (g.O.Sink.written c.print_run.new.out) (g.O.Sink.faults c.args.out.now)
    (g.O.Sink.faults c.print_run.new.out))
    c.in-Err-print_run.stop c.requires.few
    (executed _ _ _ _ _ _ _ _ _ made.0 made.1.0 c.in-Ok.ensures.found made.1.1.0 made.1.1.1.0)
    (λ e. c.in-Err-print_run.ensures.failed (ap Err e))

pub returns-clause-named : goal.returns-clause-named
returns-clause-named g c =
    let made = c.in-Err-print_run.ensures.shown in
    stop_named c.args.words.now.items _ _ made.0.end made.1.0 c.in-Err-print_run.stop made.1.1.1.0

pub returns-clause-complete : goal.returns-clause-complete
returns-clause-complete g c = λ accepted calm out_calm.
    let made = c.in-Err-print_run.ensures.shown in
    left_running _ _ _ _
    (sink_call (g.O.Sink.written c.args.out.now) (g.O.Sink.written c.print_run.new.out) (g.O.Sink.faults c.args.out.now)
    (g.O.Sink.faults c.print_run.new.out))
    c.in-Err-print_run.stop out_calm
    (executed _ _ _ _ _ _ _ _ _ made.0 made.1.0 c.in-Ok.ensures.found made.1.1.0 made.1.1.1.0)
    (λ e. c.in-Err-print_run.ensures.failed (ap Err e))

pub returns-clause-out_calm : goal.returns-clause-out_calm
returns-clause-out_calm g c = λ room calm fits.
    let made = c.in-Err-print_run.ensures.shown in
    made.1.1.1.1 room calm (fits _ _ _ made.0 made.1.0 c.in-Ok.ensures.found made.1.1.0)

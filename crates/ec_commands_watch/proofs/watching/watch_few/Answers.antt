use Rattle.std.proofs.Common.{refl, ap, inl, Err}
use Rattle.ec_io.specs.Views.{store_view, sink_call}
use Rattle.ec_commands_watch.specs.Watches.{number_name}
use Rattle.ec_commands_watch.proofs.Runs.{ran, watched, run_stops}
use Rattle.ec_commands_watch.proofs.Stops.{before_run, left_running}
use Rattle.ec_commands_watch.proofs.watching.watch_few.Goals as goal

pub returns-in-Err-clause-stopped : goal.returns-in-Err-clause-stopped
returns-in-Err-clause-stopped g c =
    inl (
      before_run c.args.words.now.items c.args.leaf
          (store_view (g.S.Store.disk c.args.store.now) (g.S.Store.read_faults c.args.store.now) (g.S.Store.write_faults c.args.store.now)
          (g.S.Store.received c.args.store.now) (g.S.Store.missed c.args.store.now))
          (store_view (g.S.Store.disk c.load.new.store) (g.S.Store.read_faults c.load.new.store) (g.S.Store.write_faults c.load.new.store)
          (g.S.Store.received c.load.new.store) (g.S.Store.missed c.load.new.store))
          c.in-Err.stop c.requires.few c.in-Err.ensures.stopped,
      refl,
    )

pub returns-in-Err-clause-complete : goal.returns-in-Err-clause-complete
returns-in-Err-clause-complete g c = λ accepted calm out_calm. c.in-Err.ensures.complete accepted calm

pub print_watch-shown-requires-clause-placed : goal.print_watch-shown-requires-clause-placed
print_watch-shown-requires-clause-placed g c =
    let built = c.in-Ok.ensures.found.read.from.built in (built.asm, built.image)

pub print_watch-shown-requires-clause-point : goal.print_watch-shown-requires-clause-point
print_watch-shown-requires-clause-point g c =
    (number_name c.args.words.now.items, c.args.leaf, c.in-Ok.ensures.found.number)

pub print_watch-shown-requires-clause-reset : goal.print_watch-shown-requires-clause-reset
print_watch-shown-requires-clause-reset g c = c.in-Ok.ensures.found.is_reset

pub returns-in-Ok-shown-clause-ran : goal.returns-in-Ok-shown-clause-ran
returns-in-Ok-shown-clause-ran g c =
    let made = c.in-Ok-shown.ensures.shown in
    watched c.args.words.now.items c.args.steps c.args.leaf c.args.rule _ _ _ _ _ _ c.in-Ok.ensures.found _ made.0 made.1.0 made.1.1.0 _ _
    made.1.1.1.0 made.1.1.1.1.1.source

pub returns-in-Ok-shown-clause-out_calm : goal.returns-in-Ok-shown-clause-out_calm
returns-in-Ok-shown-clause-out_calm g c = λ room calm fits.
    let made = c.in-Ok-shown.ensures.shown in
    made.1.1.1.1.0 room calm (fits _ _ made.0 made.1.0
    (ran c.args.words.now.items c.args.steps c.args.leaf c.args.rule _ _ _ _ _ _ c.in-Ok.ensures.found _ made.0 made.1.0 made.1.1.0))

pub returns-in-Err-shown-clause-stopped : goal.returns-in-Err-shown-clause-stopped
returns-in-Err-shown-clause-stopped g c =
    let made = c.in-Err-shown.ensures.shown in
    run_stops c.args.words.now.items c.args.steps c.args.leaf c.args.rule _
    (store_view (g.S.Store.disk c.args.store.now) (g.S.Store.read_faults c.args.store.now) (g.S.Store.write_faults c.args.store.now)
    (g.S.Store.received c.args.store.now) (g.S.Store.missed c.args.store.now))
    (store_view (g.S.Store.disk c.load.new.store) (g.S.Store.read_faults c.load.new.store) (g.S.Store.write_faults c.load.new.store)
    (g.S.Store.received c.load.new.store) (g.S.Store.missed c.load.new.store))
    (sink_call (g.O.Sink.written c.args.out.now) (g.O.Sink.written c.print_watch-shown.new.out) (g.O.Sink.faults c.args.out.now)
    (g.O.Sink.faults c.print_watch-shown.new.out))
    c.in-Err-shown.stop c.requires.few
    (watched c.args.words.now.items c.args.steps c.args.leaf c.args.rule _ _ _ _ _ _ c.in-Ok.ensures.found _ made.0 made.1.0 made.1.1.0 _ _
    made.1.1.1.0 made.1.1.1.1.1.source)
    (λ e. c.in-Err-shown.ensures.failed (ap Err e))

pub returns-in-Err-shown-clause-complete : goal.returns-in-Err-shown-clause-complete
returns-in-Err-shown-clause-complete g c = λ accepted calm out_calm.
    let made = c.in-Err-shown.ensures.shown in
    left_running c.args.words.now.items c.args.steps c.args.leaf c.args.rule _ _
    (sink_call (g.O.Sink.written c.args.out.now) (g.O.Sink.written c.print_watch-shown.new.out) (g.O.Sink.faults c.args.out.now)
    (g.O.Sink.faults c.print_watch-shown.new.out))
    c.in-Err-shown.stop out_calm
    (watched c.args.words.now.items c.args.steps c.args.leaf c.args.rule _ _ _ _ _ _ c.in-Ok.ensures.found _ made.0 made.1.0 made.1.1.0 _ _
    made.1.1.1.0 made.1.1.1.1.1.source)
    (λ e. c.in-Err-shown.ensures.failed (ap Err e))

pub returns-in-Err-shown-clause-out_calm : goal.returns-in-Err-shown-clause-out_calm
returns-in-Err-shown-clause-out_calm g c = λ room calm fits.
    let made = c.in-Err-shown.ensures.shown in
    made.1.1.1.1.0 room calm (fits _ _ made.0 made.1.0
    (ran c.args.words.now.items c.args.steps c.args.leaf c.args.rule _ _ _ _ _ _ c.in-Ok.ensures.found _ made.0 made.1.0 made.1.1.0))

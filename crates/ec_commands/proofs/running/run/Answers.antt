use Rattle.ec_io.specs.Views.{store_view}
use Rattle.ec_commands.proofs.RunParts.{ran, ran_whole, ran_stopped}
use Rattle.ec_commands.proofs.running.run.Goals as goal

pub returns-clause-ran : goal.returns-clause-ran
returns-clause-ran g c =
    let made = c.print_run.ensures.shown in
    let found = c.in-Ok.ensures.found in
    ran_whole _ _ _ _ _ _ c.print_run.result
    (ran _ _ _ _ _ _ _ found.0 found.1 _ _ _ made.0 made.1.0 found.2.0 found.2.1 made.1.1.0 made.1.1.1.0)

pub returns-clause-stopped : goal.returns-clause-stopped
returns-clause-stopped g c =
    let made = c.print_run.ensures.shown in
    let found = c.in-Ok.ensures.found in
    ran_stopped c.args.words.now.items c.args.steps c.args.fill _
    (store_view (g.S.Store.disk c.args.store.now) (g.S.Store.read_faults c.args.store.now) (g.S.Store.write_faults c.args.store.now)
    (g.S.Store.received c.args.store.now) (g.S.Store.missed c.args.store.now))
    (store_view (g.S.Store.disk c.load.new.store) (g.S.Store.read_faults c.load.new.store) (g.S.Store.write_faults c.load.new.store)
    (g.S.Store.received c.load.new.store) (g.S.Store.missed c.load.new.store)) _ c.print_run.result
    (ran _ _ _ _ _ _ _ found.0 found.1 _ _ _ made.0 made.1.0 found.2.0 found.2.1 made.1.1.0 made.1.1.1.0) c.print_run.ensures.failed

pub returns-clause-out_calm : goal.returns-clause-out_calm
returns-clause-out_calm g c = λ room calm fits.
    let made = c.print_run.ensures.shown in
    let found = c.in-Ok.ensures.found in
    made.1.1.1.1 room calm (fits found.0 found.1 _ _ _ made.0 made.1.0 found.2.0 found.2.1 made.1.1.0)

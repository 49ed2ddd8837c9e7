use Rattle.std.proofs.Common.{inl, inr}
use Rattle.ec_io.specs.Views.{store_view}
use Rattle.ec_commands_watch.proofs.Stops.{reading_stops, number_stops}
use Rattle.ec_commands_watch.proofs.load.load.Goals as goal

pub returns-in-Err-clause-stopped : goal.returns-in-Err-clause-stopped
returns-in-Err-clause-stopped g c =
    reading_stops c.args.words.now.items c.args.leaf
    (store_view (g.S.Store.disk c.args.store.now) (g.S.Store.read_faults c.args.store.now) (g.S.Store.write_faults c.args.store.now)
    (g.S.Store.received c.args.store.now) (g.S.Store.missed c.args.store.now))
    (store_view (g.S.Store.disk c.read_exec.new.store) (g.S.Store.read_faults c.read_exec.new.store)
    (g.S.Store.write_faults c.read_exec.new.store) (g.S.Store.received c.read_exec.new.store) (g.S.Store.missed c.read_exec.new.store))
    c.in-Err.stop c.in-Err.ensures.stopped

pub returns-in-Err-clause-complete : goal.returns-in-Err-clause-complete
returns-in-Err-clause-complete g c = λ accepted calm. inr (inl (c.in-Err.ensures.complete accepted calm))

pub prepare-requires-clause-placed : goal.prepare-requires-clause-placed
prepare-requires-clause-placed g c =
    let built = c.in-Ok.ensures.found.from.built in (built.asm, built.image)

pub returns-in-Err-prepare-clause-stopped : goal.returns-in-Err-prepare-clause-stopped
returns-in-Err-prepare-clause-stopped g c =
    number_stops c.args.words.now.items c.args.leaf
    (store_view (g.S.Store.disk c.args.store.now) (g.S.Store.read_faults c.args.store.now) (g.S.Store.write_faults c.args.store.now)
    (g.S.Store.received c.args.store.now) (g.S.Store.missed c.args.store.now))
    (store_view (g.S.Store.disk c.read_exec.new.store) (g.S.Store.read_faults c.read_exec.new.store)
    (g.S.Store.write_faults c.read_exec.new.store) (g.S.Store.received c.read_exec.new.store) (g.S.Store.missed c.read_exec.new.store))
    c.in-Ok.read.built c.in-Ok.read.script.lines.items c.in-Err-prepare.stop c.in-Ok.ensures.found c.in-Err-prepare.ensures.stopped

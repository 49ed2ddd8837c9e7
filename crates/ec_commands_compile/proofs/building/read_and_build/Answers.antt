use Rattle.ec_io.specs.Views.{store_view}
use Rattle.ec_commands.specs.Sources.{texts}
use Rattle.ec_commands_compile.proofs.Reading.{no_reading_stop, read_accepted, built_of, refused_by}
use Rattle.ec_commands_compile.proofs.building.read_and_build.Goals as goal

pub returns-in-Err-clause-complete : goal.returns-in-Err-clause-complete
returns-in-Err-clause-complete g c = λ accepted calm.
    no_reading_stop c.args.words.now.items c.args.first (g.S.Store.disk c.args.store.now) (g.S.Store.read_faults c.args.store.now)
    (g.S.Store.write_faults c.args.store.now)
    (g.S.Store.received c.args.store.now) (g.S.Store.missed c.args.store.now)
    (store_view (g.S.Store.disk c.read_inputs.new.store) (g.S.Store.read_faults c.read_inputs.new.store)
    (g.S.Store.write_faults c.read_inputs.new.store) (g.S.Store.received c.read_inputs.new.store)
    (g.S.Store.missed c.read_inputs.new.store))
    c.in-Err.stop accepted calm c.in-Err.ensures.stopped

pub returns-clause-found : goal.returns-clause-found
returns-clause-found g c =
    built_of c.args.words.now.items c.args.first (g.S.Store.disk c.args.store.now) c.in-Ok.inputs.map.items
    (texts c.in-Ok.inputs.sources.items) c.compile.result
    c.in-Ok.ensures.found c.compile.ensures.built

pub returns-clause-stopped : goal.returns-clause-stopped
returns-clause-stopped g c =
    refused_by c.args.words.now.items c.args.first
    (store_view (g.S.Store.disk c.args.store.now) (g.S.Store.read_faults c.args.store.now) (g.S.Store.write_faults c.args.store.now)
    (g.S.Store.received c.args.store.now) (g.S.Store.missed c.args.store.now))
    (store_view (g.S.Store.disk c.read_inputs.new.store) (g.S.Store.read_faults c.read_inputs.new.store)
    (g.S.Store.write_faults c.read_inputs.new.store) (g.S.Store.received c.read_inputs.new.store)
    (g.S.Store.missed c.read_inputs.new.store))
    c.in-Ok.inputs.map.items
    (texts c.in-Ok.inputs.sources.items) c.compile.result c.in-Ok.ensures.found c.compile.ensures.stopped

pub returns-clause-complete : goal.returns-clause-complete
returns-clause-complete g c = λ accepted calm.
    c.compile.ensures.complete
    (read_accepted c.args.words.now.items c.args.first (g.S.Store.disk c.args.store.now) c.in-Ok.inputs.map.items
    (texts c.in-Ok.inputs.sources.items) accepted c.in-Ok.ensures.found)

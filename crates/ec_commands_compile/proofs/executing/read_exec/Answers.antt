use Rattle.ec_io.specs.Views.{store_view}
use Rattle.ec_commands.specs.Sources.{texts}
use Rattle.ec_commands_compile.proofs.ReadingExec.{reading_stops, build_stops, script_stops, no_reading_stop, read_accepted}
use Rattle.ec_commands_compile.proofs.ReadingExec.{no_script_fault}
use Rattle.ec_commands_compile.proofs.executing.read_exec.Goals as goal

pub returns-in-Err-clause-stopped : goal.returns-in-Err-clause-stopped
returns-in-Err-clause-stopped g c =
    reading_stops c.args.words.now.items c.args.first
    (store_view (g.S.Store.disk c.args.store.now) (g.S.Store.read_faults c.args.store.now) (g.S.Store.write_faults c.args.store.now)
    (g.S.Store.received c.args.store.now) (g.S.Store.missed c.args.store.now))
    (store_view (g.S.Store.disk c.read_inputs.new.store) (g.S.Store.read_faults c.read_inputs.new.store)
    (g.S.Store.write_faults c.read_inputs.new.store) (g.S.Store.received c.read_inputs.new.store) (g.S.Store.missed c.read_inputs.new.store))
    c.in-Err.stop c.in-Err.ensures.stopped

pub returns-in-Err-clause-complete : goal.returns-in-Err-clause-complete
returns-in-Err-clause-complete g c = λ accepted calm.
    no_reading_stop c.args.words.now.items c.args.first (g.S.Store.disk c.args.store.now) (g.S.Store.read_faults c.args.store.now)
    (g.S.Store.write_faults c.args.store.now)
    (g.S.Store.received c.args.store.now) (g.S.Store.missed c.args.store.now)
    (store_view (g.S.Store.disk c.read_inputs.new.store) (g.S.Store.read_faults c.read_inputs.new.store)
    (g.S.Store.write_faults c.read_inputs.new.store) (g.S.Store.received c.read_inputs.new.store) (g.S.Store.missed c.read_inputs.new.store))
    c.in-Err.stop accepted calm c.in-Err.ensures.stopped

pub returns-in-Err-compile-clause-stopped : goal.returns-in-Err-compile-clause-stopped
returns-in-Err-compile-clause-stopped g c =
    build_stops c.args.words.now.items c.args.first
    (store_view (g.S.Store.disk c.args.store.now) (g.S.Store.read_faults c.args.store.now) (g.S.Store.write_faults c.args.store.now)
    (g.S.Store.received c.args.store.now) (g.S.Store.missed c.args.store.now))
    (store_view (g.S.Store.disk c.read_inputs.new.store) (g.S.Store.read_faults c.read_inputs.new.store)
    (g.S.Store.write_faults c.read_inputs.new.store) (g.S.Store.received c.read_inputs.new.store) (g.S.Store.missed c.read_inputs.new.store))
    c.in-Ok.inputs.inputs.map.items c.in-Ok.inputs.script.items
    (texts c.in-Ok.inputs.inputs.sources.items) c.in-Err-compile.stop c.in-Ok.ensures.found
    c.in-Err-compile.ensures.stopped

pub returns-in-Err-compile-clause-complete : goal.returns-in-Err-compile-clause-complete
returns-in-Err-compile-clause-complete g c = λ accepted calm.
    c.in-Err-compile.ensures.complete
    (read_accepted c.args.words.now.items c.args.first (g.S.Store.disk c.args.store.now) c.in-Ok.inputs.inputs.map.items
    c.in-Ok.inputs.script.items
    (texts c.in-Ok.inputs.inputs.sources.items) accepted c.in-Ok.ensures.found)

pub returns-in-Ok-load_script-clause-found : goal.returns-in-Ok-load_script-clause-found
returns-in-Ok-load_script-clause-found g c = record {
  lines = c.in-Ok.inputs.script.items;
  from = record {
    map = c.in-Ok.inputs.inputs.map.items;
    sources = texts c.in-Ok.inputs.inputs.sources.items;
    inputs = c.in-Ok.ensures.found;
    built = c.in-Ok-compile.ensures.built;
  };
  kept = c.in-Ok-load_script.ensures.kept;
  scripted = c.in-Ok-load_script.ensures.lines;
}

pub returns-clause-stopped : goal.returns-clause-stopped
returns-clause-stopped g c =
    script_stops c.args.words.now.items c.args.first
    (store_view (g.S.Store.disk c.args.store.now) (g.S.Store.read_faults c.args.store.now) (g.S.Store.write_faults c.args.store.now)
    (g.S.Store.received c.args.store.now) (g.S.Store.missed c.args.store.now))
    (store_view (g.S.Store.disk c.read_inputs.new.store) (g.S.Store.read_faults c.read_inputs.new.store)
    (g.S.Store.write_faults c.read_inputs.new.store) (g.S.Store.received c.read_inputs.new.store) (g.S.Store.missed c.read_inputs.new.store))
    c.in-Ok.inputs.script.items c.in-Ok-compile.built c.in-Err-load_script.stop
    (record {
      map = c.in-Ok.inputs.inputs.map.items;
      sources = texts c.in-Ok.inputs.inputs.sources.items;
      inputs = c.in-Ok.ensures.found;
      built = c.in-Ok-compile.ensures.built;
    })
    c.in-Err-load_script.ensures.stopped

pub returns-clause-complete : goal.returns-clause-complete
returns-clause-complete g c = λ accepted calm.
    no_script_fault c.args.words.now.items c.args.first (g.S.Store.disk c.args.store.now) c.in-Ok.inputs.inputs.map.items
    c.in-Ok.inputs.script.items
    (texts c.in-Ok.inputs.inputs.sources.items) c.in-Ok-compile.built c.in-Err-load_script.stop c.in-Ok-compile.ensures.built accepted
    c.in-Ok.ensures.found c.in-Err-load_script.ensures.stopped

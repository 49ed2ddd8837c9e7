use Rattle.std.proofs.Common.{sym, ap, subst}
use Rattle.ec_io.specs.Views.{store_view}
use Rattle.ec_commands_compile.specs.Execs.{StopsLoadingExec}
use Rattle.ec_commands_compile.specs.Stops.{status_of}
use Rattle.ec_commands_compile.proofs.executing.load.Goals as goal

pub returns-in-Ok-machine-clause-found : goal.returns-in-Ok-machine-clause-found
returns-in-Ok-machine-clause-found g c = record {
  lines = c.in-Ok.ensures.found.lines;
  built = c.in-Ok.read.built;
  from = c.in-Ok.ensures.found.from;
  reset = c.in-Ok-machine.ensures.reset;
  is_reset = c.in-Ok-machine.ensures.is_reset;
  kept = c.in-Ok.ensures.found.kept;
  scripted = c.in-Ok.ensures.found.scripted;
}

pub returns-in-Err-machine-clause-stopped : goal.returns-in-Err-machine-clause-stopped
returns-in-Err-machine-clause-stopped g c =
    subst (λ stop. StopsLoadingExec c.args.words.now.items 4
    (store_view (g.S.Store.disk c.args.store.now) (g.S.Store.read_faults c.args.store.now) (g.S.Store.write_faults c.args.store.now)
    (g.S.Store.received c.args.store.now) (g.S.Store.missed c.args.store.now))
    (store_view (g.S.Store.disk c.read_exec.new.store) (g.S.Store.read_faults c.read_exec.new.store)
    (g.S.Store.write_faults c.read_exec.new.store) (g.S.Store.received c.read_exec.new.store) (g.S.Store.missed c.read_exec.new.store)) stop)
    (sym c.in-Err-machine.ensures.stopped) tt

pub returns-in-Err-machine-clause-complete : goal.returns-in-Err-machine-clause-complete
returns-in-Err-machine-clause-complete g c = λ accepted calm. ap status_of c.in-Err-machine.ensures.stopped

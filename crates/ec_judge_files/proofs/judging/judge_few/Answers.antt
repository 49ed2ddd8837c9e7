use Rattle.std.proofs.Common.{map, refl, inl}
use Rattle.ec_io.specs.Views.{store_view, sink_call}
use Rattle.ec_emu.specs.Script.{entry_of}
use Rattle.ec_commands_compile.proofs.ReadingExec.{before_run}
use Rattle.ec_judge_files.proofs.Statuses.{judged_status}
use Rattle.ec_judge_files.proofs.judging.judge_few.Goals as goal

pub returns-in-Err-clause-stopped : goal.returns-in-Err-clause-stopped
returns-in-Err-clause-stopped g c = (
  before_run c.args.words.now.items 4
      (store_view (g.S.Store.disk c.args.store.now) (g.S.Store.read_faults c.args.store.now) (g.S.Store.write_faults c.args.store.now)
      (g.S.Store.received c.args.store.now) (g.S.Store.missed c.args.store.now))
      (store_view (g.S.Store.disk c.read_exec.new.store) (g.S.Store.read_faults c.read_exec.new.store)
      (g.S.Store.write_faults c.read_exec.new.store) (g.S.Store.received c.read_exec.new.store) (g.S.Store.missed c.read_exec.new.store))
      c.in-Err.stop c.requires.few c.in-Err.ensures.stopped,
  refl,
)

pub returns-in-Err-clause-complete : goal.returns-in-Err-clause-complete
returns-in-Err-clause-complete g c = λ accepted calm out_calm. inl (c.in-Err.ensures.complete accepted calm)

pub returns-in-Ok-judged-clause-judged : goal.returns-in-Ok-judged-clause-judged
returns-in-Ok-judged-clause-judged g c = record {
  built = c.in-Ok.read.built;
  answers = c.in-Ok.read.script.lines.items;
  read = c.in-Ok.ensures.found;
  judges = c.in-Ok-judged.ensures.judged;
}

pub returns-in-Ok-judged-clause-out_calm : goal.returns-in-Ok-judged-clause-out_calm
returns-in-Ok-judged-clause-out_calm g c = λ room calm fits.
    c.in-Ok-judged.ensures.calm room calm (fits c.in-Ok.read.built c.in-Ok.read.script.lines.items c.in-Ok.ensures.found)

pub returns-clause-stopped : goal.returns-clause-stopped
returns-clause-stopped g c = (
  c.requires.few,
  record {
    built = c.in-Ok.read.built;
    answers = c.in-Ok.read.script.lines.items;
    read = c.in-Ok.ensures.found;
    judges = c.in-Err-judged.ensures.judged;
  },
)

pub returns-clause-complete : goal.returns-clause-complete
returns-clause-complete g c = λ accepted calm out_calm.
    judged_status c.in-Ok.read.built.program c.in-Ok.read.built.map.io (map entry_of c.in-Ok.read.script.lines.items) c.args.turns
    (sink_call (g.O.Sink.written c.args.out.now) (g.O.Sink.written c.judge_run-judged.new.out) (g.O.Sink.faults c.args.out.now)
    (g.O.Sink.faults c.judge_run-judged.new.out))
    c.in-Err-judged.stop out_calm c.in-Err-judged.ensures.judged

pub returns-clause-out_calm : goal.returns-clause-out_calm
returns-clause-out_calm g c = λ room calm fits.
    c.in-Err-judged.ensures.calm room calm (fits c.in-Ok.read.built c.in-Ok.read.script.lines.items c.in-Ok.ensures.found)

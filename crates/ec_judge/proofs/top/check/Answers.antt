use Rattle.std.proofs.Common.{refl, inr}
use Rattle.ec_io.specs.Views.{store_view, sink_call}
use Rattle.ec_commands.specs.Command.{command_of}
use Rattle.ec_commands.specs.declared.stop.CommandError.TheVariants.{Usage}
use Rattle.ec_commands.proofs.RunComplete.{by_status}
use Rattle.ec_commands_compile.specs.declared.stop.CompileStop.TheVariants.{Command}
use Rattle.ec_judge_files.specs.Judgements.{IsJudgedStatus}
use Rattle.ec_judge_files.specs.Stops.{status_of, line_of}
use Rattle.ec_judge_files.specs.declared.stop.JudgeStop.TheVariants.{Compile}
use Rattle.ec_judge.specs.Checks.{turns_of}
use Rattle.ec_judge.proofs.Answered.{does_at, answered}
use Rattle.ec_judge.proofs.top.check.Goals as goal

pub judge-judged-requires : goal.judge-judged-requires
judge-judged-requires g c = c.in-Some.ensures.row.five

pub returns-in-Some-clause-done : goal.returns-in-Some-clause-done
returns-in-Some-clause-done g c =
    does_at c.args.words.now.items
    (store_view (g.S.Store.disk c.args.store.now) (g.S.Store.read_faults c.args.store.now) (g.S.Store.write_faults c.args.store.now)
    (g.S.Store.received c.args.store.now) (g.S.Store.missed c.args.store.now))
    (store_view (g.S.Store.disk c.judge-judged.new.store) (g.S.Store.read_faults c.judge-judged.new.store)
    (g.S.Store.write_faults c.judge-judged.new.store) (g.S.Store.received c.judge-judged.new.store) (g.S.Store.missed c.judge-judged.new.store))
    (sink_call (g.O.Sink.written c.args.out.now) (g.O.Sink.written c.judge-judged.new.out)
    (g.O.Sink.faults c.args.out.now) (g.O.Sink.faults c.judge-judged.new.out))
    (sink_call (g.E.Sink.written c.args.err.now) (g.E.Sink.written c.conclude.new.err)
    (g.E.Sink.faults c.args.err.now) (g.E.Sink.faults c.conclude.new.err))
    (g.S.Store.calm c.args.store.now) (g.O.Sink.calm c.args.out.now) (g.E.Sink.calm c.args.err.now) c.conclude.result
    _ (turns_of (command_of c.args.words.now.items)) c.in-Some.ensures.value (record {
      answered = answered c.args.words.now.items _ _ _ _ _ c.judge-judged.result c.conclude.result c.conclude.ensures.done
          c.conclude.ensures.told c.judge-judged.ensures.judged c.judge-judged.ensures.stopped;
      complete = λ few accepts calm out_calm.
          by_status status_of (line_of c.args.words.now.items) IsJudgedStatus _ _ _ c.judge-judged.result c.conclude.result
          c.conclude.ensures.done c.conclude.ensures.told (c.judge-judged.ensures.complete few accepts calm out_calm);
      store_unfailing = λ made room calm. c.judge-judged.ensures.calm made room calm;
      out_unfailing = λ room calm fits. c.judge-judged.ensures.out_calm room calm fits;
      kept = c.judge-judged.ensures.files;
      no_writes = c.judge-judged.ensures.write_faults;
    })

pub returns-in-None-clause-done : goal.returns-in-None-clause-done
returns-in-None-clause-done g c =
    does_at c.args.words.now.items
    (store_view (g.S.Store.disk c.args.store.now) (g.S.Store.read_faults c.args.store.now) (g.S.Store.write_faults c.args.store.now)
    (g.S.Store.received c.args.store.now) (g.S.Store.missed c.args.store.now))
    (store_view (g.S.Store.disk c.args.store.now) (g.S.Store.read_faults c.args.store.now)
    (g.S.Store.write_faults c.args.store.now) (g.S.Store.received c.args.store.now) (g.S.Store.missed c.args.store.now))
    (sink_call (g.O.Sink.written c.args.out.now) (g.O.Sink.written c.args.out.now)
    (g.O.Sink.faults c.args.out.now) (g.O.Sink.faults c.args.out.now))
    (sink_call (g.E.Sink.written c.args.err.now) (g.E.Sink.written c.conclude-in-None.new.err)
    (g.E.Sink.faults c.args.err.now) (g.E.Sink.faults c.conclude-in-None.new.err))
    (g.S.Store.calm c.args.store.now) (g.O.Sink.calm c.args.out.now) (g.E.Sink.calm c.args.err.now) c.conclude-in-None.result
    _ (turns_of (command_of c.args.words.now.items)) c.in-None.ensures.value (record {
      answered = inr (Compile (Command Usage), (c.conclude-in-None.ensures.told, refl));
      idle = refl;
      silent = refl;
    })

use Rattle.std.proofs.Common.{◌≡◌, ◌<◌, ◌∙◌, false, refl, sym, ap, subst, arith, inr}
use Rattle.ec_io.specs.Views.{store_view, sink_call}
use Rattle.ec_commands.specs.Answers.{IsLeft}
use Rattle.ec_commands.specs.Command.{command_of}
use Rattle.ec_commands.specs.Stops as commands
use Rattle.ec_commands.specs.declared.stop.CommandError.TheVariants.{Usage}
use Rattle.ec_commands_bound.specs.Bounds.{IsUnbounded}
use Rattle.ec_commands_bound.specs.Stops as bounding
use Rattle.ec_commands_bound.proofs.Usage.{bound_no_usage}
use Rattle.ec_commands_watch.specs.Watches.{IsUnwatched}
use Rattle.ec_commands_compile.specs.Stops as compiling
use Rattle.ec_commands.proofs.RunComplete.{by_status, left_of}
use Rattle.ec_commands_list.proofs.Usage.{list_no_usage, assemble_no_usage}
use Rattle.ec_driver.specs.Commands.{prints, asks, uses_files, sources_of}
use Rattle.ec_driver.proofs.Commands.{does_at, answer_of, err_map, no_two_of, no_two, build_no_usage, exec_no_usage, gen_no_usage}
use Rattle.ec_driver.proofs.Commands.{watch_no_usage}
use Rattle.ec_driver.proofs.Commands.{told_ten, quiet_of, bound_told_ten, bound_quiet}
use Rattle.ec_driver.proofs.top.tool.Goals as goal

-- ---- build

pub returns-in-Build-clause-done : goal.returns-in-Build-clause-done
returns-in-Build-clause-done g c =
    does_at _ (command_of c.args.words.now.items) c.in-Build.ensures.value (record {
      answered = answer_of compiling.status_of (compiling.line_of c.args.words.now.items 3) _ _ _ _ _ c.build-built.result c.conclude.result
          c.conclude.ensures.done (rw c.first_source.ensures at c.conclude.ensures.told) c.build-built.ensures.built
          c.build-built.ensures.stopped;
      complete = λ few accepted reads writes. by_status compiling.status_of (compiling.line_of c.args.words.now.items 3) (λ status.
          status ≡ 11) _ _ _
          c.build-built.result c.conclude.result c.conclude.ensures.done (rw c.first_source.ensures at c.conclude.ensures.told)
          (c.build-built.ensures.complete (record { row = c.in-Build.ensures.row; few = few }) accepted reads writes);
      store_unfailing = λ room calm fits. c.build-built.ensures.calm room calm fits;
      out_unfailing = refl;
      kept = tt;
    })

pub returns-in-Build-clause-idle : goal.returns-in-Build-clause-idle
returns-in-Build-clause-idle g c = λ e. let no = ap uses_files c.in-Build.ensures.value ∙ e in cc

pub returns-in-Build-clause-usage : goal.returns-in-Build-clause-usage
returns-in-Build-clause-usage g c = (
  λ two. absurd (no_two c.args.words.now.items 3 _ _ _ _ c.build-built.result c.conclude.result
      (build_no_usage c.args.words.now.items
      (store_view (g.S.Store.disk c.args.store.now) (g.S.Store.read_faults c.args.store.now) (g.S.Store.write_faults c.args.store.now)
      (g.S.Store.received c.args.store.now) (g.S.Store.missed c.args.store.now))
      (store_view (g.S.Store.disk c.build-built.new.store) (g.S.Store.read_faults c.build-built.new.store)
      (g.S.Store.write_faults c.build-built.new.store) (g.S.Store.received c.build-built.new.store)
      (g.S.Store.missed c.build-built.new.store)) c.in-Build.ensures.row)
      c.conclude.ensures.done (rw c.first_source.ensures at c.conclude.ensures.told) c.build-built.ensures.stopped two),
  λ none. let no = c.in-Build.ensures.value ∙ none in cc,
)

pub returns-in-Build-clause-sources : goal.returns-in-Build-clause-sources
returns-in-Build-clause-sources g c = λ several.
    told_ten c.args.words.now.items 3 _ _ c.build-built.result c.conclude.result
    (c.build-built.ensures.sources c.in-Build.ensures.row
    (subst (λ command. 16 < sources_of command c.args.words.now.items) (sym c.in-Build.ensures.value) several)) (rw
    c.first_source.ensures at c.conclude.ensures.told)

-- ---- run

pub returns-in-Run-clause-done : goal.returns-in-Run-clause-done
returns-in-Run-clause-done g c =
    does_at _ (command_of c.args.words.now.items) c.in-Run.ensures.value (record {
      answered = answer_of commands.status_of (commands.line_of c.args.words.now.items) _ _ _ _ _ c.run-answer.result
          c.conclude-in-Run.result c.conclude-in-Run.ensures.done c.conclude-in-Run.ensures.told c.run-answer.ensures.ran
          c.run-answer.ensures.stopped;
      complete = λ accepts calm out_calm.
          by_status commands.status_of (commands.line_of c.args.words.now.items) IsLeft _ _ _ c.run-answer.result
          c.conclude-in-Run.result c.conclude-in-Run.ensures.done
          c.conclude-in-Run.ensures.told (err_map c.run-answer.result _ _
          (λ stop h. left_of c.args.words.now.items c.in-Run.steps c.in-Run.fill _ (g.S.Store.disk c.args.store.now)
          (g.S.Store.read_faults c.args.store.now) (g.S.Store.write_faults c.args.store.now) (g.S.Store.received c.args.store.now)
          (g.S.Store.missed c.args.store.now)
          (store_view (g.S.Store.disk c.run-answer.new.store) (g.S.Store.read_faults c.run-answer.new.store)
          (g.S.Store.write_faults c.run-answer.new.store) (g.S.Store.received c.run-answer.new.store)
          (g.S.Store.missed c.run-answer.new.store))
          (sink_call (g.O.Sink.written c.args.out.now) (g.O.Sink.written c.run-answer.new.out) (g.O.Sink.faults c.args.out.now)
          (g.O.Sink.faults c.run-answer.new.out)) stop accepts calm out_calm h) c.run-answer.ensures.stopped);
      store_unfailing = λ made room calm. (c.run-answer.ensures.calm made room calm, c.run-answer.ensures.write_faults);
      out_unfailing = λ room calm fits. c.run-answer.ensures.out_calm room calm fits;
      kept = (c.run-answer.ensures.files, c.run-answer.ensures.write_faults);
    })

pub returns-in-Run-clause-unprinted : goal.returns-in-Run-clause-unprinted
returns-in-Run-clause-unprinted g c = λ e. let no = ap prints c.in-Run.ensures.value ∙ e in cc

pub returns-in-Run-clause-unasked : goal.returns-in-Run-clause-unasked
returns-in-Run-clause-unasked g c = λ e. let no = ap asks c.in-Run.ensures.value ∙ e in cc

pub returns-in-Run-clause-idle : goal.returns-in-Run-clause-idle
returns-in-Run-clause-idle g c = λ e. let no = ap uses_files c.in-Run.ensures.value ∙ e in cc

pub returns-in-Run-clause-sources : goal.returns-in-Run-clause-sources
returns-in-Run-clause-sources g c = λ several.
    let none : 16 < 0 = subst (λ command. 16 < sources_of command c.args.words.now.items) (sym c.in-Run.ensures.value) several in
    absurd (omega (arith, none))

-- ---- exec

pub returns-in-Exec-clause-done : goal.returns-in-Exec-clause-done
returns-in-Exec-clause-done g c =
    does_at _ (command_of c.args.words.now.items) c.in-Exec.ensures.value (record {
      answered = answer_of compiling.status_of (compiling.line_of c.args.words.now.items 4) _ _ _ _ _ c.exec-executed.result
          c.conclude-in-Exec.result
          c.conclude-in-Exec.ensures.done (rw c.first_source-in-Exec.ensures at c.conclude-in-Exec.ensures.told)
          c.exec-executed.ensures.ran c.exec-executed.ensures.stopped;
      complete = λ few accepts calm out_calm. by_status compiling.status_of (compiling.line_of c.args.words.now.items 4) IsLeft _ _ _
          c.exec-executed.result c.conclude-in-Exec.result c.conclude-in-Exec.ensures.done (rw c.first_source-in-Exec.ensures at
          c.conclude-in-Exec.ensures.told) (c.exec-executed.ensures.complete few accepts calm out_calm);
      store_unfailing = λ made room calm. (c.exec-executed.ensures.calm made room calm, c.exec-executed.ensures.write_faults);
      out_unfailing = λ room calm fits. c.exec-executed.ensures.out_calm room calm fits;
      kept = (c.exec-executed.ensures.files, c.exec-executed.ensures.write_faults);
    })

pub returns-in-Exec-clause-unprinted : goal.returns-in-Exec-clause-unprinted
returns-in-Exec-clause-unprinted g c = λ e. let no = ap prints c.in-Exec.ensures.value ∙ e in cc

pub returns-in-Exec-clause-unasked : goal.returns-in-Exec-clause-unasked
returns-in-Exec-clause-unasked g c = λ e. let no = ap asks c.in-Exec.ensures.value ∙ e in cc

pub returns-in-Exec-clause-idle : goal.returns-in-Exec-clause-idle
returns-in-Exec-clause-idle g c = λ e. let no = ap uses_files c.in-Exec.ensures.value ∙ e in cc

pub returns-in-Exec-clause-usage : goal.returns-in-Exec-clause-usage
returns-in-Exec-clause-usage g c = (
  λ two. absurd (no_two c.args.words.now.items 4 _ _ _ _ c.exec-executed.result c.conclude-in-Exec.result
      (exec_no_usage c.args.words.now.items c.in-Exec.steps _
      (store_view (g.S.Store.disk c.args.store.now) (g.S.Store.read_faults c.args.store.now) (g.S.Store.write_faults c.args.store.now)
      (g.S.Store.received c.args.store.now) (g.S.Store.missed c.args.store.now))
      (store_view (g.S.Store.disk c.exec-executed.new.store) (g.S.Store.read_faults c.exec-executed.new.store)
      (g.S.Store.write_faults c.exec-executed.new.store) (g.S.Store.received c.exec-executed.new.store)
      (g.S.Store.missed c.exec-executed.new.store))
      (sink_call (g.O.Sink.written c.args.out.now) (g.O.Sink.written c.exec-executed.new.out) (g.O.Sink.faults c.args.out.now)
      (g.O.Sink.faults c.exec-executed.new.out)))
      c.conclude-in-Exec.ensures.done (rw c.first_source-in-Exec.ensures at c.conclude-in-Exec.ensures.told)
      c.exec-executed.ensures.stopped two),
  λ none. let no = c.in-Exec.ensures.value ∙ none in cc,
)

pub returns-in-Exec-clause-sources : goal.returns-in-Exec-clause-sources
returns-in-Exec-clause-sources g c = λ several.
    told_ten c.args.words.now.items 4 _ _ c.exec-executed.result c.conclude-in-Exec.result
    (c.exec-executed.ensures.sources
    (subst (λ command. 16 < sources_of command c.args.words.now.items) (sym c.in-Exec.ensures.value) several)) (rw
    c.first_source-in-Exec.ensures at c.conclude-in-Exec.ensures.told)

-- ---- gen

pub returns-in-Gen-clause-done : goal.returns-in-Gen-clause-done
returns-in-Gen-clause-done g c =
    does_at _ (command_of c.args.words.now.items) c.in-Gen.ensures.value (record {
      answered = answer_of compiling.status_of (compiling.line_of c.args.words.now.items 0) _ _ _ _ _ c.run_generated-generated.result
          c.conclude-in-Gen.result
          c.conclude-in-Gen.ensures.done c.conclude-in-Gen.ensures.told c.run_generated-generated.ensures.ran
          c.run_generated-generated.ensures.stopped;
      complete = λ accepts out_calm. by_status compiling.status_of (compiling.line_of c.args.words.now.items 0) IsLeft _ _ _
          c.run_generated-generated.result c.conclude-in-Gen.result c.conclude-in-Gen.ensures.done c.conclude-in-Gen.ensures.told
          (c.run_generated-generated.ensures.complete accepts out_calm);
      store_unfailing = (refl, refl);
      out_unfailing = λ room calm fits. c.run_generated-generated.ensures.out_calm room calm fits;
      kept = refl;
    })

pub returns-in-Gen-clause-unprinted : goal.returns-in-Gen-clause-unprinted
returns-in-Gen-clause-unprinted g c = λ e. let no = ap prints c.in-Gen.ensures.value ∙ e in cc

pub returns-in-Gen-clause-unasked : goal.returns-in-Gen-clause-unasked
returns-in-Gen-clause-unasked g c = λ e. let no = ap asks c.in-Gen.ensures.value ∙ e in cc

pub returns-in-Gen-clause-quiet : goal.returns-in-Gen-clause-quiet
returns-in-Gen-clause-quiet g c =
    quiet_of c.args.words.now.items 0 _ _ _ _ c.run_generated-generated.result c.conclude-in-Gen.result c.conclude-in-Gen.ensures.done
    c.conclude-in-Gen.ensures.told

pub returns-in-Gen-clause-usage : goal.returns-in-Gen-clause-usage
returns-in-Gen-clause-usage g c = (
  λ two. absurd (no_two c.args.words.now.items 0 _ _ _ _ c.run_generated-generated.result c.conclude-in-Gen.result
      (gen_no_usage c.in-Gen.n _
      (sink_call (g.O.Sink.written c.args.out.now) (g.O.Sink.written c.run_generated-generated.new.out) (g.O.Sink.faults c.args.out.now)
      (g.O.Sink.faults c.run_generated-generated.new.out)))
      c.conclude-in-Gen.ensures.done c.conclude-in-Gen.ensures.told c.run_generated-generated.ensures.stopped two),
  λ none. let no = c.in-Gen.ensures.value ∙ none in cc,
)

pub returns-in-Gen-clause-sources : goal.returns-in-Gen-clause-sources
returns-in-Gen-clause-sources g c = λ several.
    let none : 16 < 0 = subst (λ command. 16 < sources_of command c.args.words.now.items) (sym c.in-Gen.ensures.value) several in
    absurd (omega (arith, none))

-- ---- list

pub returns-in-List-clause-done : goal.returns-in-List-clause-done
returns-in-List-clause-done g c =
    does_at _ (command_of c.args.words.now.items) c.in-List.ensures.value (record {
      answered = answer_of commands.status_of (commands.line_of c.args.words.now.items) _ _ _ _ _ c.list-listed.result
          c.conclude-in-List.result c.conclude-in-List.ensures.done c.conclude-in-List.ensures.told c.list-listed.ensures.listed
          c.list-listed.ensures.stopped;
      complete = λ accepts calm out_calm.
          by_status commands.status_of (commands.line_of c.args.words.now.items) (λ status. status ≡ 11) _ _ _ c.list-listed.result
          c.conclude-in-List.result c.conclude-in-List.ensures.done c.conclude-in-List.ensures.told
          (c.list-listed.ensures.complete accepts calm out_calm);
      store_unfailing = λ made room calm. (c.list-listed.ensures.calm made room calm, c.list-listed.ensures.write_faults);
      out_unfailing = λ room calm fits. c.list-listed.ensures.out_calm room calm fits;
      kept = (c.list-listed.ensures.files, c.list-listed.ensures.write_faults);
    })

pub returns-in-List-clause-unprinted : goal.returns-in-List-clause-unprinted
returns-in-List-clause-unprinted g c = λ e. let no = ap prints c.in-List.ensures.value ∙ e in cc

pub returns-in-List-clause-idle : goal.returns-in-List-clause-idle
returns-in-List-clause-idle g c = λ e. let no = ap uses_files c.in-List.ensures.value ∙ e in cc

pub returns-in-List-clause-usage : goal.returns-in-List-clause-usage
returns-in-List-clause-usage g c = (
  λ two. absurd (no_two_of commands.status_of (commands.line_of c.args.words.now.items) _ _ _ _ c.list-listed.result
      c.conclude-in-List.result (list_no_usage c.args.words.now.items c.in-List.core
      (store_view (g.S.Store.disk c.args.store.now) (g.S.Store.read_faults c.args.store.now) (g.S.Store.write_faults c.args.store.now)
      (g.S.Store.received c.args.store.now) (g.S.Store.missed c.args.store.now))
      (store_view (g.S.Store.disk c.list-listed.new.store) (g.S.Store.read_faults c.list-listed.new.store)
      (g.S.Store.write_faults c.list-listed.new.store) (g.S.Store.received c.list-listed.new.store)
      (g.S.Store.missed c.list-listed.new.store))
      (sink_call (g.O.Sink.written c.args.out.now) (g.O.Sink.written c.list-listed.new.out) (g.O.Sink.faults c.args.out.now)
      (g.O.Sink.faults c.list-listed.new.out)))
      c.conclude-in-List.ensures.done c.conclude-in-List.ensures.told c.list-listed.ensures.stopped two),
  λ none. let no = c.in-List.ensures.value ∙ none in cc,
)

pub returns-in-List-clause-sources : goal.returns-in-List-clause-sources
returns-in-List-clause-sources g c = λ several.
    let none : 16 < 0 = subst (λ command. 16 < sources_of command c.args.words.now.items) (sym c.in-List.ensures.value) several in
    absurd (omega (arith, none))

-- ---- assemble

pub returns-in-Assemble-clause-done : goal.returns-in-Assemble-clause-done
returns-in-Assemble-clause-done g c =
    does_at _ (command_of c.args.words.now.items) c.in-Assemble.ensures.value (record {
      answered = answer_of commands.status_of (commands.line_of c.args.words.now.items) _ _ _ _ _ c.assemble-assembled.result
          c.conclude-in-Assemble.result c.conclude-in-Assemble.ensures.done c.conclude-in-Assemble.ensures.told
          c.assemble-assembled.ensures.assembled c.assemble-assembled.ensures.stopped;
      complete = λ accepts calm write_calm.
          by_status commands.status_of (commands.line_of c.args.words.now.items) (λ status. status ≡ 11) _ _ _
          c.assemble-assembled.result c.conclude-in-Assemble.result c.conclude-in-Assemble.ensures.done
          c.conclude-in-Assemble.ensures.told (c.assemble-assembled.ensures.complete accepts calm write_calm);
      store_unfailing = λ room calm fits. c.assemble-assembled.ensures.calm room calm fits;
      out_unfailing = refl;
      kept = tt;
    })

pub returns-in-Assemble-clause-idle : goal.returns-in-Assemble-clause-idle
returns-in-Assemble-clause-idle g c = λ e. let no = ap uses_files c.in-Assemble.ensures.value ∙ e in cc

pub returns-in-Assemble-clause-usage : goal.returns-in-Assemble-clause-usage
returns-in-Assemble-clause-usage g c = (
  λ two. absurd (no_two_of commands.status_of (commands.line_of c.args.words.now.items) _ _ _ _ c.assemble-assembled.result
      c.conclude-in-Assemble.result (assemble_no_usage c.args.words.now.items c.in-Assemble.core
      (store_view (g.S.Store.disk c.args.store.now) (g.S.Store.read_faults c.args.store.now) (g.S.Store.write_faults c.args.store.now)
      (g.S.Store.received c.args.store.now) (g.S.Store.missed c.args.store.now))
      (store_view (g.S.Store.disk c.assemble-assembled.new.store) (g.S.Store.read_faults c.assemble-assembled.new.store)
      (g.S.Store.write_faults c.assemble-assembled.new.store) (g.S.Store.received c.assemble-assembled.new.store)
      (g.S.Store.missed c.assemble-assembled.new.store)))
      c.conclude-in-Assemble.ensures.done c.conclude-in-Assemble.ensures.told c.assemble-assembled.ensures.stopped two),
  λ none. let no = c.in-Assemble.ensures.value ∙ none in cc,
)

pub returns-in-Assemble-clause-sources : goal.returns-in-Assemble-clause-sources
returns-in-Assemble-clause-sources g c = λ several.
    let none : 16 < 0 = subst (λ command. 16 < sources_of command c.args.words.now.items) (sym c.in-Assemble.ensures.value) several in
    absurd (omega (arith, none))

-- ---- bound

pub returns-in-Bound-clause-done : goal.returns-in-Bound-clause-done
returns-in-Bound-clause-done g c =
    does_at _ (command_of c.args.words.now.items) c.in-Bound.ensures.value (record {
      answered = answer_of bounding.status_of (bounding.line_of c.args.words.now.items 2) _ _ _ _ _ c.bound-bounded.result
          c.conclude-in-Bound.result c.conclude-in-Bound.ensures.done (rw c.first_source-in-Bound.ensures at
          c.conclude-in-Bound.ensures.told) c.bound-bounded.ensures.bounded c.bound-bounded.ensures.stopped;
      complete = λ few accepts calm out_calm.
          by_status bounding.status_of (bounding.line_of c.args.words.now.items 2) IsUnbounded _ _ _ c.bound-bounded.result
          c.conclude-in-Bound.result c.conclude-in-Bound.ensures.done (rw c.first_source-in-Bound.ensures at
          c.conclude-in-Bound.ensures.told) (c.bound-bounded.ensures.complete few accepts calm out_calm);
      store_unfailing = λ made room calm. (c.bound-bounded.ensures.calm made room calm, c.bound-bounded.ensures.write_faults);
      out_unfailing = λ room calm fits. c.bound-bounded.ensures.out_calm room calm fits;
      kept = (c.bound-bounded.ensures.files, c.bound-bounded.ensures.write_faults);
    })

pub returns-in-Bound-clause-unprinted : goal.returns-in-Bound-clause-unprinted
returns-in-Bound-clause-unprinted g c = λ e. let no = ap prints c.in-Bound.ensures.value ∙ e in cc

pub returns-in-Bound-clause-idle : goal.returns-in-Bound-clause-idle
returns-in-Bound-clause-idle g c = λ e. let no = ap uses_files c.in-Bound.ensures.value ∙ e in cc

pub returns-in-Bound-clause-quiet : goal.returns-in-Bound-clause-quiet
returns-in-Bound-clause-quiet g c =
    bound_quiet c.args.words.now.items 2 _ _ _ _ c.bound-bounded.result c.conclude-in-Bound.result c.conclude-in-Bound.ensures.done
    (rw c.first_source-in-Bound.ensures at c.conclude-in-Bound.ensures.told)

pub returns-in-Bound-clause-usage : goal.returns-in-Bound-clause-usage
returns-in-Bound-clause-usage g c = (
  λ two. absurd (no_two_of bounding.status_of (bounding.line_of c.args.words.now.items 2) _ _ _ _ c.bound-bounded.result
      c.conclude-in-Bound.result (bound_no_usage c.args.words.now.items
      (store_view (g.S.Store.disk c.args.store.now) (g.S.Store.read_faults c.args.store.now) (g.S.Store.write_faults c.args.store.now)
      (g.S.Store.received c.args.store.now) (g.S.Store.missed c.args.store.now))
      (store_view (g.S.Store.disk c.bound-bounded.new.store) (g.S.Store.read_faults c.bound-bounded.new.store)
      (g.S.Store.write_faults c.bound-bounded.new.store) (g.S.Store.received c.bound-bounded.new.store)
      (g.S.Store.missed c.bound-bounded.new.store))
      (sink_call (g.O.Sink.written c.args.out.now) (g.O.Sink.written c.bound-bounded.new.out) (g.O.Sink.faults c.args.out.now)
      (g.O.Sink.faults c.bound-bounded.new.out)))
      c.conclude-in-Bound.ensures.done (rw c.first_source-in-Bound.ensures at c.conclude-in-Bound.ensures.told)
      c.bound-bounded.ensures.stopped two),
  λ none. let no = c.in-Bound.ensures.value ∙ none in cc,
)

pub returns-in-Bound-clause-sources : goal.returns-in-Bound-clause-sources
returns-in-Bound-clause-sources g c = λ several.
    bound_told_ten c.args.words.now.items 2 _ _ c.bound-bounded.result c.conclude-in-Bound.result
    (c.bound-bounded.ensures.sources
    (subst (λ command. 16 < sources_of command c.args.words.now.items) (sym c.in-Bound.ensures.value) several)) (rw
    c.first_source-in-Bound.ensures at c.conclude-in-Bound.ensures.told)

-- ---- watch

pub returns-in-Watch-clause-done : goal.returns-in-Watch-clause-done
returns-in-Watch-clause-done g c =
    does_at _ (command_of c.args.words.now.items) c.in-Watch.ensures.value (record {
      answered = answer_of compiling.status_of (compiling.line_of c.args.words.now.items 8) _ _ _ _ _ c.watch-watched.result
          c.conclude-in-Watch.result
          c.conclude-in-Watch.ensures.done (rw c.first_source-in-Watch.ensures at c.conclude-in-Watch.ensures.told)
          c.watch-watched.ensures.ran c.watch-watched.ensures.stopped;
      complete = λ few accepts calm out_calm. by_status compiling.status_of (compiling.line_of c.args.words.now.items 8) IsUnwatched _ _ _
          c.watch-watched.result c.conclude-in-Watch.result c.conclude-in-Watch.ensures.done (rw c.first_source-in-Watch.ensures at
          c.conclude-in-Watch.ensures.told) (c.watch-watched.ensures.complete few accepts calm out_calm);
      store_unfailing = λ made room calm. (c.watch-watched.ensures.calm made room calm, c.watch-watched.ensures.write_faults);
      out_unfailing = λ room calm fits. c.watch-watched.ensures.out_calm room calm fits;
      kept = (c.watch-watched.ensures.files, c.watch-watched.ensures.write_faults);
    })

pub returns-in-Watch-clause-unprinted : goal.returns-in-Watch-clause-unprinted
returns-in-Watch-clause-unprinted g c = λ e. let no = ap prints c.in-Watch.ensures.value ∙ e in cc

pub returns-in-Watch-clause-unasked : goal.returns-in-Watch-clause-unasked
returns-in-Watch-clause-unasked g c = λ e. let no = ap asks c.in-Watch.ensures.value ∙ e in cc

pub returns-in-Watch-clause-idle : goal.returns-in-Watch-clause-idle
returns-in-Watch-clause-idle g c = λ e. let no = ap uses_files c.in-Watch.ensures.value ∙ e in cc

pub returns-in-Watch-clause-usage : goal.returns-in-Watch-clause-usage
returns-in-Watch-clause-usage g c = (
  λ two. absurd (no_two c.args.words.now.items 8 _ _ _ _ c.watch-watched.result c.conclude-in-Watch.result
      (watch_no_usage c.args.words.now.items c.in-Watch.steps c.in-Watch.leaf c.in-Watch.rule _
      (store_view (g.S.Store.disk c.args.store.now) (g.S.Store.read_faults c.args.store.now) (g.S.Store.write_faults c.args.store.now)
      (g.S.Store.received c.args.store.now) (g.S.Store.missed c.args.store.now))
      (store_view (g.S.Store.disk c.watch-watched.new.store) (g.S.Store.read_faults c.watch-watched.new.store)
      (g.S.Store.write_faults c.watch-watched.new.store) (g.S.Store.received c.watch-watched.new.store)
      (g.S.Store.missed c.watch-watched.new.store))
      (sink_call (g.O.Sink.written c.args.out.now) (g.O.Sink.written c.watch-watched.new.out) (g.O.Sink.faults c.args.out.now)
      (g.O.Sink.faults c.watch-watched.new.out)))
      c.conclude-in-Watch.ensures.done (rw c.first_source-in-Watch.ensures at c.conclude-in-Watch.ensures.told)
      c.watch-watched.ensures.stopped two),
  λ none. let no = c.in-Watch.ensures.value ∙ none in cc,
)

pub returns-in-Watch-clause-sources : goal.returns-in-Watch-clause-sources
returns-in-Watch-clause-sources g c = λ several.
    told_ten c.args.words.now.items 8 _ _ c.watch-watched.result c.conclude-in-Watch.result
    (c.watch-watched.ensures.sources
    (subst (λ command. 16 < sources_of command c.args.words.now.items) (sym c.in-Watch.ensures.value) several)) (rw
    c.first_source-in-Watch.ensures at c.conclude-in-Watch.ensures.told)

-- ---- no command

pub returns-in-NoCommand-clause-done : goal.returns-in-NoCommand-clause-done
returns-in-NoCommand-clause-done g c =
    does_at _ (command_of c.args.words.now.items) c.in-NoCommand.ensures.value (record {
      answered = inr (Usage, (c.conclude-in-NoCommand.ensures.told, refl));
      complete = tt;
      store_unfailing = (refl, refl);
      out_unfailing = refl;
      kept = refl;
    })

pub returns-in-NoCommand-clause-usage : goal.returns-in-NoCommand-clause-usage
returns-in-NoCommand-clause-usage g c = (λ two. sym c.in-NoCommand.ensures.value, λ none. c.conclude-in-NoCommand.ensures.told.is)

pub returns-in-NoCommand-clause-sources : goal.returns-in-NoCommand-clause-sources
returns-in-NoCommand-clause-sources g c = λ several.
    let none : 16 < 0 = subst (λ command. 16 < sources_of command c.args.words.now.items) (sym c.in-NoCommand.ensures.value) several in
    absurd (omega (arith, none))

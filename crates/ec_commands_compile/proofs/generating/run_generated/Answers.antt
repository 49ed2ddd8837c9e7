use Rattle.std.proofs.Common.{Err, refl, ap, inl, inr}
use Rattle.ec_io.specs.Views.{sink_call}
use Rattle.ec_commands_compile.proofs.RunGen.{was_generated, fits_generated, left_generated, count_named, load_named}
use Rattle.ec_commands_compile.proofs.generating.run_generated.Goals as goal

pub returns-in-Err-clause-stopped : goal.returns-in-Err-clause-stopped
returns-in-Err-clause-stopped g c = inl (c.in-Err.ensures.stopped, refl)

pub returns-in-Err-clause-complete : goal.returns-in-Err-clause-complete
returns-in-Err-clause-complete g c = λ accepted out_calm. inl (c.in-Err.ensures.complete accepted)

pub returns-in-Err-clause-named : goal.returns-in-Err-clause-named
returns-in-Err-clause-named g c = λ words. load_named c.args.n words c.in-Err.stop c.in-Err.ensures.stopped

pub returns-in-Ok-print_counts-clause-ran : goal.returns-in-Ok-print_counts-clause-ran
returns-in-Ok-print_counts-clause-ran g c =
    let made = c.in-Ok-print_counts.ensures.shown in
    was_generated _ _ _ _ _ _ _ made.0 made.1.0 c.in-Ok.ensures.found c.in-Ok.ensures.script made.1.1.0 made.1.1.1.0

pub returns-in-Ok-print_counts-clause-out_calm : goal.returns-in-Ok-print_counts-clause-out_calm
returns-in-Ok-print_counts-clause-out_calm g c = λ room calm fits.
    let made = c.in-Ok-print_counts.ensures.shown in
    made.1.1.1.1 room calm (fits_generated _ _ room _ _ _ made.0 made.1.0 fits c.in-Ok.ensures.found c.in-Ok.ensures.script made.1.1.0)

pub returns-clause-stopped : goal.returns-clause-stopped
returns-clause-stopped g c =
    let made = c.in-Err-print_counts.ensures.shown in
    inr (
      was_generated _ _ _ _ _ _ _ made.0 made.1.0 c.in-Ok.ensures.found c.in-Ok.ensures.script made.1.1.0 made.1.1.1.0,
      λ e. c.in-Err-print_counts.ensures.failed (ap Err e),
    )

pub returns-clause-complete : goal.returns-clause-complete
returns-clause-complete g c = λ accepted out_calm.
    let made = c.in-Err-print_counts.ensures.shown in
    left_generated _ _
    (sink_call (g.O.Sink.written c.args.out.now) (g.O.Sink.written c.print_counts.new.out) (g.O.Sink.faults c.args.out.now)
    (g.O.Sink.faults c.print_counts.new.out))
    c.in-Err-print_counts.stop out_calm
    (was_generated _ _ _ _ _ _ _ made.0 made.1.0 c.in-Ok.ensures.found c.in-Ok.ensures.script made.1.1.0 made.1.1.1.0)
    (λ e. c.in-Err-print_counts.ensures.failed (ap Err e))

pub returns-clause-named : goal.returns-clause-named
returns-clause-named g c = λ words.
    let made = c.in-Err-print_counts.ensures.shown in
    count_named words _ _ made.0.end made.0.writes c.in-Err-print_counts.stop made.1.1.1.0

pub returns-clause-out_calm : goal.returns-clause-out_calm
returns-clause-out_calm g c = λ room calm fits.
    let made = c.in-Err-print_counts.ensures.shown in
    made.1.1.1.1 room calm (fits_generated _ _ room _ _ _ made.0 made.1.0 fits c.in-Ok.ensures.found c.in-Ok.ensures.script made.1.1.0)

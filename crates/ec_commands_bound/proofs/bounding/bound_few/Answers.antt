use Rattle.std.proofs.Common.{refl, inl, inr}
use Rattle.ec_io.specs.Views.{store_view}
use Rattle.ec_commands_bound.proofs.Numbers.{before}
use Rattle.ec_commands_bound.proofs.bounding.bound_few.Goals as goal

pub returns-in-Err-clause-stopped : goal.returns-in-Err-clause-stopped
returns-in-Err-clause-stopped g c =
    inl (
      before c.args.words.now.items
          (store_view (g.S.Store.disk c.args.store.now) (g.S.Store.read_faults c.args.store.now) (g.S.Store.write_faults c.args.store.now)
          (g.S.Store.received c.args.store.now) (g.S.Store.missed c.args.store.now))
          (store_view (g.S.Store.disk c.count.new.store) (g.S.Store.read_faults c.count.new.store)
          (g.S.Store.write_faults c.count.new.store) (g.S.Store.received c.count.new.store) (g.S.Store.missed c.count.new.store))
          c.in-Err.stop c.requires.few c.in-Err.ensures.stopped,
      refl,
    )

pub returns-in-Err-clause-complete : goal.returns-in-Err-clause-complete
returns-in-Err-clause-complete g c = λ accepted calm out_calm. c.in-Err.ensures.complete accepted calm

pub returns-in-Ok-write_steps-clause-bounded : goal.returns-in-Ok-write_steps-clause-bounded
returns-in-Ok-write_steps-clause-bounded g c =
    record { steps = c.in-Ok.steps; bound = c.in-Ok.ensures.found; shown = c.in-Ok-write_steps.ensures.written }

pub returns-in-Ok-write_steps-clause-out_calm : goal.returns-in-Ok-write_steps-clause-out_calm
returns-in-Ok-write_steps-clause-out_calm g c = λ room calm fits.
    (c.write_steps.ensures.calm room calm (fits c.in-Ok.steps c.in-Ok.ensures.found)).same

pub returns-in-Err-write_steps-clause-stopped : goal.returns-in-Err-write_steps-clause-stopped
returns-in-Err-write_steps-clause-stopped g c =
    inr (
      refl,
      (
        c.requires.few,
        (
          c.in-Err-write_steps.ensures.cause.failed,
          (c.in-Ok.steps, (c.in-Ok.ensures.found, c.in-Err-write_steps.ensures.written)),
        ),
      ),
    )

pub returns-in-Err-write_steps-clause-complete : goal.returns-in-Err-write_steps-clause-complete
returns-in-Err-write_steps-clause-complete g c = λ accepted calm out_calm. absurd (out_calm c.in-Err-write_steps.ensures.cause.failed)

pub returns-in-Err-write_steps-clause-out_calm : goal.returns-in-Err-write_steps-clause-out_calm
returns-in-Err-write_steps-clause-out_calm g c = λ room calm fits.
    (c.write_steps.ensures.calm room calm (fits c.in-Ok.steps c.in-Ok.ensures.found)).same

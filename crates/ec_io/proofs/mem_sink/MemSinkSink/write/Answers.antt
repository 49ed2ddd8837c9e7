use Rattle.std.proofs.Common.{refl, sym, ◌∙◌, arith}
use Rattle.ec_io.proofs.Schedules.{not_due, past_on}
use Rattle.ec_io.proofs.mem_sink.MemSinkSink.write.Goals as goal

pub returns-then-next-clause-calm : goal.returns-then-next-clause-calm
returns-then-next-clause-calm c =
    rw (← c.self.view_is) (λ room calm fits. absurd (not_due _ _ calm.past (sym c.next.ensures.due ∙ c.if-next.true)))

pub returns-clause-calm : goal.returns-clause-calm
returns-clause-calm c =
    rw (← c.self.view_is) (rw c.next.ensures.new (λ room calm fits. (
      record { ok = refl; same = refl },
      record { fits = omega (arith, calm.fits, c.min-n.ensures); count = calm.count; past = past_on _ _ calm.past },
    )))

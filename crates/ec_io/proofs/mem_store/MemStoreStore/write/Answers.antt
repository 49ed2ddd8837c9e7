use Rattle.std.proofs.Common.{◌≡◌, ◌∙◌, ◌-◌, true, refl, sym, arith}
use Rattle.ec_io.proofs.Named.{put_again, held_made, input_renewed, there_renewed}
use Rattle.ec_io.proofs.Schedules.{not_due}
use Rattle.ec_io.proofs.Stores.{calm_on}
use Rattle.ec_io.proofs.mem_store.MemStoreStore.write.Goals as goal

pub returns-then-next-clause-calm : goal.returns-then-next-clause-calm
returns-then-next-clause-calm c =
    rw (← c.self.view_is) (λ names made room calm opened fits. absurd (not_due _ _ calm.past (sym c.next.ensures.due ∙ c.if-next.true)))

pub returns-clause-disk : goal.returns-clause-disk
returns-clause-disk c =
    rw (← c.self.view_is)
    (let stands : c.self.inside.stands ≡ true = c.self.invariant.written c.if-not-self.false in
    rw (
      c.if-not-self.false,
      held_made c.self.inside.files.items c.self.inside.made c.self.inside.stands stands,
      put_again c.self.inside.files.items c.self.inside.made c.self.inside.stands _,
      stands,
      c.in-Ok.ensures.ok,
      input_renewed c.self.inside.files.items c.self.inside.made c.extend_from_slice.new.self c.self.inside.input,
    ) refl)

pub returns-clause-calm : goal.returns-clause-calm
returns-clause-calm c =
    rw (← c.self.view_is)
    (rw c.next.ensures.new (λ names made room calm opened fits. (
      record { ok = refl; same = refl },
      calm_on _ _ names made room (room - c.min-n.result) calm (record { made = refl; fail = refl; calls = refl })
          (λ name there. there_renewed c.self.inside.files.items c.self.inside.made c.extend_from_slice.new.self c.self.inside.stands name
          there) refl refl (omega (arith, calm.fits)),
    )))

use Rattle.std.proofs.Common.{◌∙◌, refl, sym}
use Rattle.ec_io.specs.MemFiles.{Names}
use Rattle.ec_io.proofs.Named.{name_told, there_told}
use Rattle.ec_io.proofs.Schedules.{not_due}
use Rattle.ec_io.proofs.Stores.{goes, calm_on}
use Rattle.ec_io.proofs.mem_store.MemStoreStore.open_file.Goals as goal

pub returns-then-next-clause-calm : goal.returns-then-next-clause-calm
returns-then-next-clause-calm c =
    rw (← c.self.view_is) (λ names made room calm named. absurd (not_due _ _ calm.past (sym c.next.ensures.due ∙ c.if-next.true)))

pub returns-in-Some-clause-fails : goal.returns-in-Some-clause-fails
returns-in-Some-clause-fails c =
    rw (← c.self.view_is)
    (let named : Names c.self.inside.files.items c.self.inside.made c.self.inside.stands c.args.name.now c.in-Some.source =
    rw (c.as_slice.ensures, c.as_bytes-2.ensures.value) at c.in-Some.ensures in
    goes _ _ (sym c.next.ensures.due ∙ c.if-next.false) (there_told _ c.self.inside.made _ _ c.in-Some.source named))

pub returns-in-Some-clause-disk : goal.returns-in-Some-clause-disk
returns-in-Some-clause-disk c =
    rw (← c.self.view_is)
    (let named : Names c.self.inside.files.items c.self.inside.made c.self.inside.stands c.args.name.now c.in-Some.source =
    rw (c.as_slice.ensures, c.as_bytes-2.ensures.value) at c.in-Some.ensures in
    (there_told _ c.self.inside.made _ _ c.in-Some.source named, rw (name_told _ c.self.inside.made _ _ c.in-Some.source named) refl))

pub returns-in-Some-clause-calm : goal.returns-in-Some-clause-calm
returns-in-Some-clause-calm c =
    rw (← c.self.view_is) (rw c.next.ensures.new (λ names made room calm among. (
      record { ok = refl; same = refl },
      calm_on _ _ names made room room calm (record { made = refl; fail = refl; calls = refl }) (λ name there. there) refl refl calm.fits,
    )))

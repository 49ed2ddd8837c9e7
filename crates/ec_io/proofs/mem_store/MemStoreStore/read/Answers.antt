use Rattle.std.proofs.Common.{◌≡◌, ◌∙◌, Some, refl, sym}
use Rattle.ec_io.specs.InMemory.{IsPlace}
use Rattle.ec_io.specs.MemFiles.{bytes_of}
use Rattle.ec_io.proofs.Named.{content_told}
use Rattle.ec_io.proofs.Schedules.{not_due}
use Rattle.ec_io.proofs.Stores.{calm_on, reads_on}
use Rattle.ec_io.proofs.mem_store.MemStoreStore.read.Goals as goal

pub returns-then-next-clause-calm : goal.returns-then-next-clause-calm
returns-then-next-clause-calm c =
    rw (← c.self.view_is) (λ names made room calm opened. absurd (not_due _ _ calm.past (sym c.next.ensures.due ∙ c.if-next.true)))

pub returns-clause-most : goal.returns-clause-most
returns-clause-most c =
    rw (← c.self.view_is) (rw c.in-Some.is
    (let here : IsPlace c.self.inside.files.items c.self.inside.made c.self.inside.stands c.in-Some.place =
    rw c.in-Some.is at c.self.invariant.input in
    let bytes : bytes_of c.self.inside.files.items c.self.inside.made c.in-Some.place.source ≡ Some c.in-Some-source_bytes.bytes.now.items =
    sym (rw (c.in-Some-source_bytes.is, c.as_slice-2.ensures) at c.source_bytes.ensures) in
    rw (content_told _ c.self.inside.made _ _ c.in-Some.place.source _ here bytes, ← c.as_slice-in-Some-source_bytes.ensures)
    c.put_next-n.ensures.most))

pub returns-clause-disk : goal.returns-clause-disk
returns-clause-disk c =
    rw (← c.self.view_is) (rw c.in-Some.is
    (let here : IsPlace c.self.inside.files.items c.self.inside.made c.self.inside.stands c.in-Some.place =
    rw c.in-Some.is at c.self.invariant.input in
    let bytes : bytes_of c.self.inside.files.items c.self.inside.made c.in-Some.place.source ≡ Some c.in-Some-source_bytes.bytes.now.items =
    sym (rw (c.in-Some-source_bytes.is, c.as_slice-2.ensures) at c.source_bytes.ensures) in
    reads_on _ c.as_slice-in-Some-source_bytes.result.now c.put_next-n.new.buf _ c.in-Some.place.at c.put_next-n.result
    (content_told _ c.self.inside.made _ _ c.in-Some.place.source _ here bytes ∙ sym c.as_slice-in-Some-source_bytes.ensures)
    c.put_next-n.ensures.most c.put_next-n.ensures.bytes))

pub returns-clause-calm : goal.returns-clause-calm
returns-clause-calm c =
    rw (← c.self.view_is) (rw c.next.ensures.new (λ names made room calm opened. (
      record { ok = refl; same = refl },
      calm_on _ _ names made room room calm (record { made = refl; fail = refl; calls = refl }) (λ name there. there) refl refl calm.fits,
    )))

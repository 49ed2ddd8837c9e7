use Rattle.std.proofs.Common.{◌≡◌, ◌∙◌, ℕ, List, [], Bool, true, false, not, refl, sym, subst}
use Rattle.std.specs.Prelude.{IsSome, bytes_eq}
use Rattle.std.specs.Cmp.Lexicographic.{same_text}
use Rattle.std.specs.FinMap.{get}
use Rattle.ec_io.specs.Disk.{Files}
use Rattle.ec_io.proofs.Named.{put_again, input_renewed, there_inserted}
use Rattle.ec_io.proofs.Schedules.{not_due}
use Rattle.ec_io.proofs.Stores.{calm_on}
use Rattle.ec_io.proofs.mem_store.MemStoreStore.create.Goals as goal

not_not : (b : Bool) → not b ≡ false → b ≡ true
not_not true e = refl
not_not false e = cc

same_name : (name made held slice : List ℕ) (ne : Bool) → held ≡ name → slice ≡ made → ne ≡ not (bytes_eq held slice)
    → ne ≡ false → name ≡ made
same_name name made held slice ne value slice_is says is_same =
    sym value ∙ same_text held slice (sym (not_not (bytes_eq held slice) (sym says ∙ is_same))) ∙ slice_is

pub returns-then-next-clause-calm : goal.returns-then-next-clause-calm
returns-then-next-clause-calm c =
    rw (← c.self.view_is) (λ names room calm. absurd (not_due _ _ calm.past (sym c.next.ensures.due ∙ c.if-next.true)))

pub returns-clause-disk : goal.returns-clause-disk
returns-clause-disk c =
    rw (← c.self.view_is)
    (let same : c.args.name.now ≡ c.self.inside.made.name.items =
    same_name _ _ _ _ _ c.as_bytes.ensures.value c.as_slice.ensures c.ne.ensures c.if-ne.false in
    rw (
      same,
      c.clear.ensures.items,
      put_again c.self.inside.files.items c.self.inside.made c.self.inside.stands [],
      input_renewed c.self.inside.files.items c.self.inside.made c.clear.new.self c.self.inside.input,
    ) refl)

pub returns-clause-calm : goal.returns-clause-calm
returns-clause-calm c =
    rw (← c.self.view_is) (rw (c.next.ensures.new) (λ names room calm. (
      record { ok = refl; same = refl },
      calm_on _ _ names _ room room calm (record { made = refl; fail = refl; calls = refl })
          (λ name there. subst (λ (files : Files). IsSome (get files name)) (put_again c.self.inside.files.items c.self.inside.made
          c.self.inside.stands c.clear.new.self.items) (there_inserted _ _ _ name there)) refl refl calm.fits,
    )))

use Rattle.std.proofs.Common.{◌≡◌, ◌∙◌, ◌*◌, ℕ, List, get_or, ap, arith}
use Rattle.std.specs.Prelude.{slice_index}
use Rattle.std.proofs.lemmas.List.{get_or_default}
use Rattle.ec_locate.specs.Entries.{local_size, scratch_size}
use Rattle.ec_locate.proofs.FrameBytes.{scratch_is}
use Rattle.ec_locate.proofs.frames.areas_of.Goals as goal

pub area_of-requires-2-clause-small : goal.area_of-requires-2-clause-small
area_of-requires-2-clause-small c k d l =
    let same = get_or_default c.deref-2.result.now k d 0 l in
    let there : get_or c.deref-2.result.now k 0 ≡ 16 * slice_index c.args.frames.now k =
    ap (λ (xs : List ℕ). get_or xs k 0) (c.deref-2.ensures.value ∙ c.in_ok-scratch_sizes.ensures) ∙ scratch_is c.args.frames.now k in
    let small = c.type_inv.frames k in
    omega (arith, same, there, small)

pub returns-clause-areas : goal.returns-clause-areas
returns-clause-areas c = record {
  locals = c.in_ok-locals.ensures.area (local_size c.args.entries.now)
      (λ f l. ap (λ (xs : List ℕ). slice_index xs f) c.deref.ensures.value ∙ c.in_ok-local_sizes.ensures.each f l);
  scratch = c.in_ok-scratch.ensures.area (scratch_size c.args.frames.now)
      (λ f l. ap (λ (xs : List ℕ). slice_index xs f) (c.deref-2.ensures.value ∙ c.in_ok-scratch_sizes.ensures)
      ∙ scratch_is c.args.frames.now f);
}

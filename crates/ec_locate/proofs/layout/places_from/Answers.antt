use Rattle.std.proofs.Common.{◌∙◌, ◌+◌, ◌*◌, ◌<◌, ◌≤◌, length, map, get_or, refl, ap, arith}
use Rattle.std.specs.Prelude.{slice_index}
use Rattle.std.proofs.lemmas.List.{get_or_default}
use Rattle.ec_overlay.specs.Objects.{bytes_before}
use Rattle.ec_locate.specs.Entries.{flash_size, far_size, data_size, owned_of, local_size}
use Rattle.ec_locate.proofs.FrameBytes.{bytes_none, before_within, take_step, placed_step, left_step}
use Rattle.ec_locate.proofs.Kept.{owner_below}
use Rattle.ec_locate.proofs.layout.places_from.Goals as goal

pub loop-entry-init : goal.loop-entry-init
loop-entry-init c = record {
  made = rw c.new-places.ensures refl;
  flash = refl;
  far = refl;
  at = refl;
  count = refl;
  each = λ f l. (let none = bytes_none c.args.entries.now f in omega (arith, none));
  below = λ f l. c.requires.begins f 0 l;
}

pub place_by-requires : goal.place_by-requires
place_by-requires c f q =
    let i = c.loop-entry.entry-index in
    let less : f < length c.args.ends.now =
    owner_below (length c.args.ends.now) f _ q (c.requires.known i _ c.loop-entry-test.true) in
    let each = c.loop-entry.invariant.each f less in
    let within : bytes_before f i (map owned_of c.args.entries.now) ≤ local_size c.args.entries.now f =
    before_within f i (map owned_of c.args.entries.now) in
    let fit = c.requires.frames_fit f less in
    omega (arith, each, within, fit)

pub take-requires : goal.take-requires
take-requires c k d l =
    let count = c.loop-entry.invariant.count in
    let same = get_or_default c.loop-entry.ends k d 0 l in
    let below : get_or c.loop-entry.ends k 0 ≤ 1152921504606846976 + 4294967296 * c.loop-entry.entry-index =
    c.loop-entry.invariant.below k (omega (arith, l, count)) in
    let test = c.loop-entry-test.true in
    let few = c.requires.few in
    omega (arith, same, below, test, few)

pub loop-entry-preserved : goal.loop-entry-preserved
loop-entry-preserved c =
    let es = c.args.entries.now in
    let i = c.loop-entry.entry-index in
    let test = c.loop-entry-test.true in
    let count = c.loop-entry.invariant.count in
    record {
      made = placed_step (length c.args.ends.now) es i c.loop-entry.next_flash c.loop-entry.next_far c.loop-entry.next_at _ _ _ _
          (λ f. c.args.area + slice_index c.loop-entry.ends f)
          c.loop-entry.places.items _ _ _ _ test c.requires.known
          (λ f l. ap (λ n. c.args.area + n) (c.loop-entry.invariant.each f l)) c.loop-entry.invariant.made c.place_by.ensures
          c.flash_size-next_flash.ensures c.far_size-next_far.ensures c.data_size-next_at.ensures c.in_ok-push.ensures.ok;
      flash = left_step flash_size es i c.loop-entry.next_flash _ _ _ test c.loop-entry.invariant.flash
          c.flash_size-next_flash.ensures;
      far = left_step far_size es i c.loop-entry.next_far _ _ _ test c.loop-entry.invariant.far c.far_size-next_far.ensures;
      at = left_step data_size es i c.loop-entry.next_at _ _ _ test c.loop-entry.invariant.at c.data_size-next_at.ensures;
      count = c.take.ensures.count ∙ count;
      each = λ f l. take_step es i f _ _ _ _ test (c.loop-entry.invariant.each f l) (c.take.ensures.each f (omega (arith, l, count)));
      below = λ f l.
          (let old = c.loop-entry.invariant.below f l in
          let step = c.take.ensures.below f (omega (arith, l, count)) in
          omega (arith, old, step));
    }

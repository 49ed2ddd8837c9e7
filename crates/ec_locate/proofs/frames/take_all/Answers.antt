use Rattle.std.proofs.Common.{◌∙◌, ◌+◌, ◌*◌, ◌≤◌, get_or, refl, arith}
use Rattle.std.proofs.lemmas.List.{get_or_default}
use Rattle.ec_locate.proofs.FrameBytes.{bytes_none, bytes_all, take_step}
use Rattle.ec_locate.proofs.frames.take_all.Goals as goal

pub loop-entry-init : goal.loop-entry-init
loop-entry-init c = record {
  count = refl;
  each = λ f l. (let none = bytes_none c.args.entries.now f in omega (arith, none));
  below = λ f l. omega arith;
}

pub take-requires : goal.take-requires
take-requires c k d l =
    let count = c.loop-entry.invariant.count in
    let same = get_or_default c.loop-entry.used k d 0 l in
    let below : get_or c.loop-entry.used k 0 ≤ get_or c.args.used.now k 0 + 4294967296 * c.loop-entry.entry-index =
    c.loop-entry.invariant.below k (omega (arith, l, count)) in
    let small : get_or c.args.used.now k 0 ≤ 1152921504606846976 = c.requires.small k 0 (omega (arith, l, count)) in
    let test = c.loop-entry-test.true in
    let few = c.requires.few in
    omega (arith, same, below, small, test, few)

pub loop-entry-preserved : goal.loop-entry-preserved
loop-entry-preserved c =
    let count = c.loop-entry.invariant.count in
    record {
      count = c.take.ensures.count ∙ count;
      each = λ f l. take_step c.args.entries.now c.loop-entry.entry-index f _ _ _ _ c.loop-entry-test.true
          (c.loop-entry.invariant.each f l)
          (c.take.ensures.each f (omega (arith, l, count)));
      below = λ f l.
          (let old = c.loop-entry.invariant.below f l in
          let step = c.take.ensures.below f (omega (arith, l, count)) in
          omega (arith, old, step));
    }

pub returns-clause-each : goal.returns-clause-each
returns-clause-each c f l =
    let end = c.loop-entry.auto.entry-index-end in
    let past = c.loop-entry-test.false in
    let all = bytes_all c.args.entries.now f c.loop-entry.entry-index (omega (arith, end, past)) in
    let each = c.loop-entry.invariant.each f l in
    omega (arith, all, each)

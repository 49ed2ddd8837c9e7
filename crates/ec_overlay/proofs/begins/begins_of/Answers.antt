use Rattle.std.proofs.Common.{◌≡◌, ◌∙◌, sym, length, arith, subst}
use Rattle.std.specs.Prelude.{slice_index}
use Rattle.std.proofs.lemmas.List.{length-map}
use Rattle.ec_check_recursion.specs.Rows.{plain_rows}
use Rattle.ec_overlay.proofs.Counted.{end_same, begin_fits, next_round}
use Rattle.ec_overlay.specs.Frames.{begin_within}
use Rattle.ec_overlay.proofs.begins.begins_of.Goals as goal

pub moved-requires-clause-fits : goal.moved-requires-clause-fits
moved-requires-clause-fits c =
    let rows = plain_rows c.args.rows.now in
    let long : length rows ≡ length c.args.rows.now = length-map c.args.rows.now _ in
    let value = c.deref.ensures.value in
    let few = c.requires.few in
    let count = c.requires.sizes in
    let round = c.loop-round-test.true in
    rw value
    (λ k d l. begin_fits rows (slice_index c.args.sizes.now) c.loop-round.begins.items c.loop-round._round k d
    (λ i q. c.requires.small i 0 (omega (arith, q, long, count))) (omega (arith, few, round)) (c.loop-round.invariant.0 ∙ sym long)
    (λ f q. c.loop-round.invariant.1 f (omega (arith, q, long))) l)

pub loop-round-preserved : goal.loop-round-preserved
loop-round-preserved c =
    let rows = plain_rows c.args.rows.now in
    let long : length rows ≡ length c.args.rows.now = length-map c.args.rows.now _ in
    let size = slice_index c.args.sizes.now in
    let made = c.in_ok-begins-2.ensures in
    let value = c.deref.ensures.value in (
      made.count,
      λ f l. (let e = made.each f l in (rw value at e)
          ∙ end_same rows size (slice_index c.loop-round.begins.items) (begin_within rows size c.loop-round._round) f
          (λ k q. c.loop-round.invariant.1 k (omega (arith, q, long)))
          ∙ sym (next_round rows size c.loop-round._round f)),
    )

pub returns-clause-each : goal.returns-clause-each
returns-clause-each c =
    let rows = plain_rows c.args.rows.now in
    let long : length rows ≡ length c.args.rows.now = length-map c.args.rows.now _ in
    let end = c.loop-round.auto._round-end in
    let past = c.loop-round-test.false in
    let all : c.loop-round._round ≡ length rows = omega (arith, end, past, long) in
    λ f l. subst (λ n. slice_index c.loop-round.begins.items f ≡ begin_within rows (slice_index c.args.sizes.now) n f) all
    (c.loop-round.invariant.1 f l)

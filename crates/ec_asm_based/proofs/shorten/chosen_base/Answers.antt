use Rattle.std.proofs.Common.{◌+◌, drop, sym, ap, ◌∙◌}
use Rattle.std.proofs.lemmas.List.{at_drop_more}
use Rattle.ec_asm_based.specs.Based.{uses, better_base, most_used}
use Rattle.ec_asm_based.proofs.shorten.chosen_base.Goals as goal

pub loop-reach-preserved : goal.loop-reach-preserved
loop-reach-preserved c =
    let reaches = c.args.reaches.now in
    let count = uses reaches c.args.items.now in
    let base = c.loop-reach.base in
    let i = c.loop-reach.reach-index in
    record {
      rest = ap (λ b. most_used count b (drop (i + 1) reaches)) (c.better-base.ensures.better ∙ ap (better_base count base) c.from.ensures)
          ∙ sym (at_drop_more (most_used count base) reaches i _ c.loop-reach-test.true) ∙ c.loop-reach.invariant.rest;
      below = c.better-base.ensures.below;
    }

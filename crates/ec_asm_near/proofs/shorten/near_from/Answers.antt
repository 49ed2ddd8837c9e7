use Rattle.std.proofs.Common.{◌∙◌, arith}
use Rattle.ec_asm_near.specs.Labels.{words_of}
use Rattle.ec_asm_near.specs.Near.{near_from}
use Rattle.ec_asm_near.specs.Rows.{items_of}
use Rattle.ec_asm_near.proofs.Passes.{near_more}
use Rattle.ec_asm_near.proofs.shorten.near_from.Goals as goal

pub loop-item-preserved : goal.loop-item-preserved
loop-item-preserved c =
    let long = words_of c.args.long.now in
    let short = words_of c.args.short.now in
    let items = c.args.items.now in
    let more = near_more long short items c.loop-item.out.items c.push_row.new.out.items (items_of c.near_row-row.result)
    (near_from long short 0 0 items) c.loop-item.pc c.loop-item.at c.from-pc.result c.from-at.result c.loop-item.item-index
    _ c.loop-item-test.true c.loop-item.invariant.out c.in_ok-push_row.ensures c.near_row-row.ensures
    (c.from-pc.ensures ∙ c.item_words.ensures) (c.from-at.ensures ∙ c.row_words.ensures) in
    record {
      out = more.0;
      below = omega (arith, c.loop-item.invariant.below, more.1);
      shorter = omega (arith, c.loop-item.invariant.shorter, more.2);
    }

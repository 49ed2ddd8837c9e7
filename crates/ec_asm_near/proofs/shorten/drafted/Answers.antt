use Rattle.std.proofs.Common.{◌∙◌, arith}
use Rattle.ec_asm_near.specs.Labels.{words_of}
use Rattle.ec_asm_near.specs.Near.{drafted}
use Rattle.ec_asm_near.specs.Rows.{items_of}
use Rattle.ec_asm_near.proofs.Passes.{draft_more}
use Rattle.ec_asm_near.proofs.shorten.drafted.Goals as goal

pub loop-item-preserved : goal.loop-item-preserved
loop-item-preserved c =
    let words = words_of c.args.labels.now in
    let items = c.args.items.now in
    let more = draft_more words items c.loop-item.out.items c.push_row.new.out.items (items_of c.draft_row.result)
    (drafted words 0 items) c.loop-item.pc c.from-pc.result c.loop-item.item-index _ c.loop-item-test.true c.loop-item.invariant.out
    c.in_ok-push_row.ensures c.draft_row.ensures (c.from-pc.ensures ∙ c.item_words.ensures) in
    record { out = more.0; below = omega (arith, c.loop-item.invariant.below, more.1) }

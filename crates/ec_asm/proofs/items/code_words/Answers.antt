use Rattle.std.proofs.Common.{◌∙◌, arith}
use Rattle.ec_asm.proofs.ItemWords.{code_step}
use Rattle.ec_asm.proofs.items.code_words.Goals as goal

pub loop-item-preserved : goal.loop-item-preserved
loop-item-preserved c =
    let step = code_step c.args.items.now c.loop-item.item-index c.loop-item.sum c.from-sum.result _ c.loop-item-test.true
    c.loop-item.invariant.total (c.from-sum.ensures ∙ c.item_words.ensures) in
    record { total = step.0; below = omega (arith, c.loop-item.invariant.below, step.1) }

use Rattle.ec_asm_near.specs.Labels.{noted}
use Rattle.ec_asm_near.proofs.Noted.{all_noted}
use Rattle.ec_asm_near.proofs.labels.labels_of.Goals as goal

pub returns : goal.returns
returns c =
    all_noted c.args.items.now
    (noted c.loop-item.labels) c.loop-item.word c.loop-item.item-index c.loop-item-test.false c.loop-item.invariant.all

use Rattle.std.proofs.Common.{◌∙◌, ap}
use Rattle.ec_list.specs.Walking.{item_in}
use Rattle.ec_list.proofs.Walk.{behind_both}
use Rattle.ec_list.proofs.listing.item_at.Goals as goal

pub returns-clause-value : goal.returns-clause-value
returns-clause-value c =
    c.item_in.ensures.value
    ∙ ap (λ cells. item_in c.args.at cells)
    (behind_both c.args.bytes.now c.args.written.now c.args.at c.behind.result.now c.behind-2.result.now c.behind.ensures
    c.behind-2.ensures)

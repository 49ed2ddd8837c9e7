use Rattle.std.proofs.Common.{◌≡◌}
use Rattle.ec_ir.specs.Operations.{plain_ir}
use Rattle.ec_select_live.proofs.Passes.{drop_back}
use Rattle.ec_select.specs.Labels.{label_bound}
use Rattle.ec_select.proofs.labels.label_count.Goals as goal

pub loop-k-preserved : goal.loop-k-preserved
loop-k-preserved c =
    let step = drop_back plain_ir c.args.code.now c.loop-k.k c.index-code-k.result c.loop-k-test.true c.loop-k.auto.k c.index-code-k.is in
    let bound : c.in_ok-n.n ≡ label_bound (plain_ir c.index-code-k.result) = c.in_ok-n.ensures in
    rw step (cc)

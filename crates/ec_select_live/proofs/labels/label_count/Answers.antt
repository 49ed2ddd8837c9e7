use Rattle.std.proofs.Common.{rules, ◌≡◌, ◌-◌, ℕ, max, sym, subst, arith, map, drop}
use Rattle.ec_ir.specs.Operations.{plain_ir}
use Rattle.ec_select_live.specs.Least.{HaveLabels}
use Rattle.ec_select_live.proofs.Growth.{more_labels}
use Rattle.ec_select_live.proofs.Passes.{drop_back}
use Rattle.ec_select_live.proofs.labels.label_count.Goals as goal

pub loop-k-preserved : goal.loop-k-preserved
loop-k-preserved c =
    let e : c.max-count.result ≡ max c.loop-k.count c.in_ok-n.n = first_of (search rules, grind (arith, c.max-count.ensures)) in
    let code = drop (c.loop-k.k - 1) (map plain_ir c.args.code.now) in
    subst (λ (n : ℕ). HaveLabels n code) (sym e)
    (more_labels c.in_ok-n.n c.loop-k.count code (drop c.loop-k.k (map plain_ir c.args.code.now)) (plain_ir c.index-code-k.result)
    (drop_back plain_ir c.args.code.now c.loop-k.k c.index-code-k.result c.loop-k-test.true c.loop-k.auto.k c.index-code-k.is)
    c.in_ok-n.ensures c.loop-k.invariant)

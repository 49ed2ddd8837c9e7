use Rattle.std.proofs.Common.{Some, arith, ap}
use Rattle.ec_interp.proofs.Changes.{changed_past_to, changed_set_to}
use Rattle.ec_interp.proofs.objects.set_leaf_of.Goals as goal

pub returns-then-k-len : goal.returns-then-k-len
returns-then-k-len c =
    let x = c.args.x.now in
    ap (λ leaves. record { serial = x.serial; live = x.live; leaves = leaves })
    (changed_set_to x.leaves.items c.args.k (Some c.args.v) (omega (arith, x.leaves.ok.0, c.len.ensures, c.if-k-len.true)))

pub returns-else-k-len : goal.returns-else-k-len
returns-else-k-len c =
    let x = c.args.x.now in
    ap (λ leaves. record { serial = x.serial; live = x.live; leaves = leaves })
    (changed_past_to x.leaves.items c.args.k (Some c.args.v) (omega (arith, x.leaves.ok.0, c.len.ensures, c.if-k-len.false)))

use Rattle.std.proofs.Common.{arith}
use Rattle.ec_locate.proofs.Trees.{deepest_below}
use Rattle.ec_locate.proofs.calls.longer.Goals as goal

pub overflow_add-deepest : goal.overflow_add-deepest
overflow_add-deepest c =
    let below = deepest_below c.args.depths.now 4294967294 c.as_slice.result.now c.requires in
    omega (arith, below, c.deepest.ensures)

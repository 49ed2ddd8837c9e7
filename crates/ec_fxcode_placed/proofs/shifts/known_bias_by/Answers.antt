use Rattle.std.proofs.Common.{arith}
use Rattle.ec_fxcode_placed.proofs.Known.{some_mask}
use Rattle.ec_fxcode_placed.proofs.shifts.known_bias_by.Goals as goal

-- the lowest byte of the mask is not 0
pub overflow_add-result : goal.overflow_add-result
overflow_add-result c =
    let some = some_mask c.args.count c.requires.some in
    let mask = c.mask_byte-mask.ensures in
    let first = c.if-i-eq0.true in
    grind (arith, some, mask, first)

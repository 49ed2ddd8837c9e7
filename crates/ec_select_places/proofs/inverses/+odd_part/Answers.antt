use Rattle.std.proofs.Common.{◌+◌}
use Rattle.ec_select_places.proofs.Inverted.{doubled, odd_part_is}
use Rattle.ec_select_places.proofs.inverses.+odd_part.Goals as goal

pub returns-clause-product : goal.returns-clause-product
returns-clause-product t c =
    doubled c.odd_part-half.result.odd c.odd_part-half.result.twos c.args.size c.odd_part-half.ensures.product c.if-size-eq1.false

pub returns-clause-value : goal.returns-clause-value
returns-clause-value t c =
    let half = c.odd_part-half in
    odd_part_is half.result.odd (half.result.twos + 1) c.args.size half.ensures.odd
    (doubled half.result.odd half.result.twos c.args.size half.ensures.product c.if-size-eq1.false) c.ranges.size.fits

use Rattle.ec_select_fixed.proofs.Sizes.{binaries_have}
use Rattle.ec_select_fixed.proofs.laws.fixed_binaries_are_short.Goals as goal

pub returns : goal.returns
returns c =
    binaries_have c.sums_are_short.ensures c.products_are_short.ensures c.quotients_are_short.ensures
    c.shifts_are_short.ensures c.orders_are_short.ensures

use Rattle.ec_select_fixed.proofs.Runs.{binaries_are_right}
use Rattle.ec_select_fixed.proofs.laws.fixed_binaries_are_right.Goals as goal

pub returns : goal.returns
returns c =
    binaries_are_right c.sums_are_right.ensures c.products_are_right.ensures c.quotients_are_right.ensures
    c.shifts_are_right.ensures c.orders_are_right.ensures

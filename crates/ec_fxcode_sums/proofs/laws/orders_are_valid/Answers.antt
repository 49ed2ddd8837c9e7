use Rattle.ec_fxcode_sums.proofs.ValidItems.{orders_are_valid}
use Rattle.ec_fxcode_sums.proofs.laws.orders_are_valid.Goals as goal

pub returns : goal.returns
returns c = orders_are_valid c.scales_are_valid.ensures

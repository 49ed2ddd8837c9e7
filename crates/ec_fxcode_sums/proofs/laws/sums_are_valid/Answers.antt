use Rattle.ec_fxcode_sums.proofs.ValidItems.{sums_are_valid}
use Rattle.ec_fxcode_sums.proofs.laws.sums_are_valid.Goals as goal

pub returns : goal.returns
returns c = sums_are_valid c.scales_are_valid.ensures c.cuts_are_valid.ensures c.clamps_are_valid.ensures

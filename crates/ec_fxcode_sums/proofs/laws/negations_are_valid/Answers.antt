use Rattle.ec_fxcode_sums.proofs.ValidItems.{negations_are_valid}
use Rattle.ec_fxcode_sums.proofs.laws.negations_are_valid.Goals as goal

pub returns : goal.returns
returns c = negations_are_valid c.scales_are_valid.ensures c.clamps_are_valid.ensures

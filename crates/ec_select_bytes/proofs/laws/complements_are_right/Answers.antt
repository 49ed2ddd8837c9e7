use Rattle.ec_select_bytes.proofs.Turned.{complements_are_right, negations_are_right}
use Rattle.ec_select_bytes.proofs.laws.complements_are_right.Goals as goal

pub returns : goal.returns
returns c = record { complement = complements_are_right; negation = negations_are_right }

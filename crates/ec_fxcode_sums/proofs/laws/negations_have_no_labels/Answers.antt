use Rattle.ec_fxcode_sums.proofs.ValidItems.{negations_use_no_label, negations_place_no_label}
use Rattle.ec_fxcode_sums.proofs.laws.negations_have_no_labels.Goals as goal

pub returns-clause-uses : goal.returns-clause-uses
returns-clause-uses c = negations_use_no_label c.scales_have_no_labels.ensures.uses c.clamps_have_no_labels.ensures.uses

pub returns-clause-places : goal.returns-clause-places
returns-clause-places c = negations_place_no_label c.scales_have_no_labels.ensures.places c.clamps_have_no_labels.ensures.places

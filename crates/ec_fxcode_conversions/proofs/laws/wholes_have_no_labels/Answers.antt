use Rattle.ec_fxcode_conversions.proofs.ValidItems.{wholes_use_no_label, wholes_place_no_label}
use Rattle.ec_fxcode_conversions.proofs.laws.wholes_have_no_labels.Goals as goal

pub returns-clause-uses : goal.returns-clause-uses
returns-clause-uses c =
    wholes_use_no_label c.scales_have_no_labels.ensures.uses c.cuts_have_no_labels.ensures.uses c.clamps_have_no_labels.ensures.uses

pub returns-clause-places : goal.returns-clause-places
returns-clause-places c =
    wholes_place_no_label c.scales_have_no_labels.ensures.places c.cuts_have_no_labels.ensures.places c.clamps_have_no_labels.ensures.places

use Rattle.ec_fxcode_scales.proofs.ValidItems.{cuts_use_no_label, cuts_place_no_label}
use Rattle.ec_fxcode_scales.proofs.laws.cuts_have_no_labels.Goals as goal

pub returns-clause-uses : goal.returns-clause-uses
returns-clause-uses c = cuts_use_no_label

pub returns-clause-places : goal.returns-clause-places
returns-clause-places c = cuts_place_no_label

use Rattle.ec_fxcode_quotients.proofs.ValidItems.{quotients_use_no_label, quotients_place_no_label}
use Rattle.ec_fxcode_quotients.proofs.laws.quotients_have_no_labels.Goals as goal

pub returns-clause-uses : goal.returns-clause-uses
returns-clause-uses c = quotients_use_no_label

pub returns-clause-places : goal.returns-clause-places
returns-clause-places c = quotients_place_no_label

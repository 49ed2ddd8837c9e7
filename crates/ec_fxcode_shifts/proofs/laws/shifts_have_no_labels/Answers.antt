use Rattle.ec_fxcode_shifts.proofs.ValidItems.{shifts_use_no_label, shifts_place_no_label}
use Rattle.ec_fxcode_shifts.proofs.laws.shifts_have_no_labels.Goals as goal

pub returns-clause-uses : goal.returns-clause-uses
returns-clause-uses c = shifts_use_no_label

pub returns-clause-places : goal.returns-clause-places
returns-clause-places c = shifts_place_no_label

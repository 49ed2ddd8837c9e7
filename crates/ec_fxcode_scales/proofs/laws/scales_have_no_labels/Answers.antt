use Rattle.ec_fxcode_scales.proofs.ValidItems.{scales_use_no_label, scales_place_no_label}
use Rattle.ec_fxcode_scales.proofs.laws.scales_have_no_labels.Goals as goal

pub returns-clause-uses : goal.returns-clause-uses
returns-clause-uses c = scales_use_no_label

pub returns-clause-places : goal.returns-clause-places
returns-clause-places c = scales_place_no_label

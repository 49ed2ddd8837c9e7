use Rattle.ec_fxcode_sums.proofs.ValidItems.{orders_use_no_label, orders_place_no_label}
use Rattle.ec_fxcode_sums.proofs.laws.orders_have_no_labels.Goals as goal

pub returns-clause-uses : goal.returns-clause-uses
returns-clause-uses c = orders_use_no_label c.scales_have_no_labels.ensures.uses

pub returns-clause-places : goal.returns-clause-places
returns-clause-places c = orders_place_no_label c.scales_have_no_labels.ensures.places

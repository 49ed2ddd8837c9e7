use Rattle.ec_fxcode_sums.proofs.ValidItems.{sums_use_no_label, sums_place_no_label}
use Rattle.ec_fxcode_sums.proofs.laws.sums_have_no_labels.Goals as goal

pub returns-clause-uses : goal.returns-clause-uses
returns-clause-uses c =
    let scales = c.scales_have_no_labels.ensures.uses in
    let cuts = c.cuts_have_no_labels.ensures.uses in
    sums_use_no_label scales cuts c.clamps_have_no_labels.ensures.uses

pub returns-clause-places : goal.returns-clause-places
returns-clause-places c =
    let scales = c.scales_have_no_labels.ensures.places in
    let cuts = c.cuts_have_no_labels.ensures.places in
    sums_place_no_label scales cuts c.clamps_have_no_labels.ensures.places

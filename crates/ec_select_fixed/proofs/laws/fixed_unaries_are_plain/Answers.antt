use Rattle.ec_select_fixed.proofs.PlainItems.{unaries_plain}
use Rattle.ec_select_fixed.proofs.laws.fixed_unaries_are_plain.Goals as goal

pub returns : goal.returns
returns c =
    unaries_plain c.negations_are_valid.ensures c.negations_have_no_labels.ensures.uses
    c.negations_have_no_labels.ensures.places

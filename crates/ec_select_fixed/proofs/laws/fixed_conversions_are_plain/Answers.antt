use Rattle.ec_select_fixed.proofs.PlainItems.{conversions_plain}
use Rattle.ec_select_fixed.proofs.laws.fixed_conversions_are_plain.Goals as goal

pub returns : goal.returns
returns c = conversions_plain (record {
  conversions = (c.conversions_are_valid.ensures, c.conversions_have_no_labels.ensures.uses, c.conversions_have_no_labels.ensures.places);
  wholes = (c.wholes_are_valid.ensures, c.wholes_have_no_labels.ensures.uses, c.wholes_have_no_labels.ensures.places);
})

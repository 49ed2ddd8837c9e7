use Rattle.ec_select_fixed.proofs.PlainItems.{binaries_plain}
use Rattle.ec_select_fixed.proofs.laws.fixed_binaries_are_plain.Goals as goal

pub returns : goal.returns
returns c = binaries_plain (record {
  sums = (c.sums_are_valid.ensures, c.sums_have_no_labels.ensures.uses, c.sums_have_no_labels.ensures.places);
  products = (c.products_are_valid.ensures, c.products_have_no_labels.ensures.uses, c.products_have_no_labels.ensures.places);
  quotients = (c.quotients_are_valid.ensures, c.quotients_have_no_labels.ensures.uses, c.quotients_have_no_labels.ensures.places);
  shifts = (c.shifts_are_valid.ensures, c.shifts_have_no_labels.ensures.uses, c.shifts_have_no_labels.ensures.places);
  orders = (c.orders_are_valid.ensures, c.orders_have_no_labels.ensures.uses, c.orders_have_no_labels.ensures.places);
})

use Rattle.ec_select_places.proofs.Valid.{steps_are_valid, orders_are_valid, conversions_are_valid, places_have_no_label}
use Rattle.ec_select_places.proofs.laws.places_are_valid.Goals as goal

pub returns : goal.returns
returns c =
    record {
      steps = steps_are_valid;
      orders = orders_are_valid;
      conversions = conversions_are_valid;
      labels = places_have_no_label;
    }

use Rattle.ec_select_places.proofs.FarFormed.{far_steps_are_short, far_orders_have_words, far_steps_are_valid}
use Rattle.ec_select_places.proofs.FarFormed.{far_orders_are_valid, far_places_have_no_label}
use Rattle.ec_select_places.proofs.laws.far_places_are_formed.Goals as goal

pub returns : goal.returns
returns c =
    record {
      steps = far_steps_are_short;
      words = far_orders_have_words c.relations_have_words.ensures;
      valid_steps = far_steps_are_valid;
      valid_orders = far_orders_are_valid;
      labels = far_places_have_no_label;
    }

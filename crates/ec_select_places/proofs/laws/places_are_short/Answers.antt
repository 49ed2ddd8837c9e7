use Rattle.ec_select_places.proofs.Short.{steps_are_short, conversions_are_short, orders_have_words}
use Rattle.ec_select_places.proofs.laws.places_are_short.Goals as goal

pub returns : goal.returns
returns c =
    record {
      steps = steps_are_short;
      conversions = conversions_are_short;
      orders = orders_have_words c.relations_have_words.ensures;
    }

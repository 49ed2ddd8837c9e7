use Rattle.ec_select_places.proofs.Indexed.{indexes_are_added}
use Rattle.ec_select_places.proofs.laws.indexes_are_added.Goals as goal

pub returns : goal.returns
returns c = indexes_are_added c.numbers_are_their_bytes.ensures.low

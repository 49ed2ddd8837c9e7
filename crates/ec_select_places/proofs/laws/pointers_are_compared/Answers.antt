use Rattle.ec_select_places.proofs.Advanced.{pointers_are_compared}
use Rattle.ec_select_places.proofs.laws.pointers_are_compared.Goals as goal

pub returns : goal.returns
returns c = pointers_are_compared c.numbers_are_their_bytes.ensures.low c.relations_are_told.ensures

use Rattle.ec_select_live.proofs.Valid.{valid_operations_have_places}
use Rattle.ec_select_live.proofs.laws.valid_operations_have_places.Goals as goal

pub returns : goal.returns
returns c = valid_operations_have_places

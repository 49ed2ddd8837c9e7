use Rattle.ec_check_statements.proofs.Scopes.{objects_stay}
use Rattle.ec_check_statements.proofs.laws.objects_stay.Goals as goal

pub returns : goal.returns
returns c = objects_stay c.blocks_end.ensures

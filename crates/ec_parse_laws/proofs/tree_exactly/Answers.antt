use Rattle.ec_parse_laws.proofs.Refusals.{tree_exactly}
use Rattle.ec_parse_laws.proofs.tree_exactly.Goals as goal

pub returns : goal.returns
returns c = tree_exactly

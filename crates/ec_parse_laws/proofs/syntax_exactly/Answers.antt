use Rattle.ec_parse_laws.proofs.Refusals.{syntax_exactly}
use Rattle.ec_parse_laws.proofs.syntax_exactly.Goals as goal

pub returns : goal.returns
returns c = syntax_exactly

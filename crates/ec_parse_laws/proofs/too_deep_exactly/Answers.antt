use Rattle.ec_parse_laws.proofs.Refusals.{too_deep_exactly}
use Rattle.ec_parse_laws.proofs.too_deep_exactly.Goals as goal

pub returns : goal.returns
returns c = too_deep_exactly

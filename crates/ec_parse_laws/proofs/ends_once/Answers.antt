use Rattle.ec_parse_laws.proofs.Refusals.{ends_once}
use Rattle.ec_parse_laws.proofs.ends_once.Goals as goal

pub returns : goal.returns
returns c = ends_once

use Rattle.ec_parse_laws.proofs.Refusals.{names_token}
use Rattle.ec_parse_laws.proofs.names_token.Goals as goal

pub returns : goal.returns
returns c = names_token

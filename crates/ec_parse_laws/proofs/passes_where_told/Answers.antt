use Rattle.ec_parse_laws.proofs.Prefixes.{passes_where_told}
use Rattle.ec_parse_laws.proofs.passes_where_told.Goals as goal

pub returns : goal.returns
returns c = passes_where_told

use Rattle.ec_parse_laws.proofs.Prefixes.{begins_before_syntax}
use Rattle.ec_parse_laws.proofs.begins_before_syntax.Goals as goal

pub returns : goal.returns
returns c = begins_before_syntax

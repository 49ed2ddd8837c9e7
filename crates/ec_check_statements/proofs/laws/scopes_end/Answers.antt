use Rattle.ec_check_statements.proofs.Scopes.{scopes_end}
use Rattle.ec_check_statements.proofs.laws.scopes_end.Goals as goal

pub returns : goal.returns
returns c = scopes_end c.blocks_end.ensures

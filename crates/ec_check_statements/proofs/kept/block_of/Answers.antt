use Rattle.std.proofs.Common.{ap, Some}
use Rattle.ec_check_statements.proofs.Lists.{blocked}
use Rattle.ec_check_statements.proofs.kept.block_of.Goals as goal

pub returns-in-Some : goal.returns-in-Some
returns-in-Some c = rw c.in-Some.is (ap Some (blocked c.in-Some.stmts))

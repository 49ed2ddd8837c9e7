use Rattle.std.proofs.Common.{◌≡◌, drop}
use Rattle.ec_core.specs.Plain.{plain_stmts}
use Rattle.ec_lower_code.specs.Code.{have_return}
use Rattle.ec_lower.proofs.ends.have_return.Given as goal

abbrev pub invariant-loop-s : goal.invariant-loop-s
invariant-loop-s l = have_return (plain_stmts (drop l.s-index l.ss)) ≡ have_return (plain_stmts l.ss)

use Rattle.std.proofs.Common.{◌≡◌, drop}
use Rattle.ec_check_statements.specs.Around.{with_pragmas}
use Rattle.ec_check_statements.proofs.around.with_pragmas.Given as goal

abbrev pub invariant-loop-pragma : goal.invariant-loop-pragma
invariant-loop-pragma l = with_pragmas (drop l.pragma-index l.pragmas) l.states ≡ with_pragmas l.pragmas l.fn.modes

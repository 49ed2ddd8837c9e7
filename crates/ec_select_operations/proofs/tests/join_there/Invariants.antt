use Rattle.std.proofs.Common.{◌≡◌, ◌++◌}
use Rattle.ec_select_operations.specs.Tests.{joined_there_code}
use Rattle.ec_select_operations.proofs.tests.join_there.Given as goal

abbrev pub invariant-loop-i : goal.invariant-loop-i
invariant-loop-i l = l.out.items ≡ l.fn.out.items ++ joined_there_code l.fn.first l.i

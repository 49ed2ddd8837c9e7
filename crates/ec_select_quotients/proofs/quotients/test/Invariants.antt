use Rattle.std.proofs.Common.{◌≡◌, ◌++◌}
use Rattle.ec_select_quotients.specs.Quotients.{test_code}
use Rattle.ec_select_quotients.proofs.quotients.test.Given as goal

abbrev pub invariant-loop-i : goal.invariant-loop-i
invariant-loop-i l = l.out.items ≡ l.fn.out.items ++ test_code l.i

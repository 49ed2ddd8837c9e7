use Rattle.std.proofs.Common.{◌≡◌, ◌++◌}
use Rattle.ec_select_bytes.specs.Values.{clears_code}
use Rattle.ec_select_bytes.proofs.values.clears.Given as goal

abbrev pub invariant-loop-i : goal.invariant-loop-i
invariant-loop-i l = l.out.items ≡ l.fn.out.items ++ clears_code l.fn.first l.fn.m l.i

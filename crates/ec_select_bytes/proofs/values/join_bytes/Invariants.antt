use Rattle.std.proofs.Common.{◌≡◌, ◌++◌}
use Rattle.ec_select_bytes.specs.Values.{join_code}
use Rattle.ec_select_bytes.proofs.values.join_bytes.Given as goal

abbrev pub invariant-loop-i : goal.invariant-loop-i
invariant-loop-i l = l.out.items ≡ l.fn.out.items ++ join_code l.fn.at l.i

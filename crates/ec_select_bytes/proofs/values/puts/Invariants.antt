use Rattle.std.proofs.Common.{◌≡◌, ◌++◌}
use Rattle.ec_select_bytes.specs.Values.{puts_code}
use Rattle.ec_select_bytes.proofs.values.puts.Given as goal

abbrev pub invariant-loop-i : goal.invariant-loop-i
invariant-loop-i l = l.out.items ≡ l.fn.out.items ++ puts_code l.fn.at l.fn.m l.i

use Rattle.std.proofs.Common.{◌≡◌, ◌++◌}
use Rattle.ec_select_bytes.specs.Values.{constant_code}
use Rattle.ec_select_bytes.proofs.values.constant.Given as goal

abbrev pub invariant-loop-i : goal.invariant-loop-i
invariant-loop-i l = l.out.items ≡ l.fn.out.items ++ constant_code l.fn.to l.fn.number l.i

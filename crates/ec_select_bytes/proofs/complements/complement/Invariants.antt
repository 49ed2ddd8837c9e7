use Rattle.std.proofs.Common.{◌≡◌, ◌++◌}
use Rattle.ec_select_bytes.specs.Complements.{complement_code}
use Rattle.ec_select_bytes.proofs.complements.complement.Given as goal

abbrev pub invariant-loop-i : goal.invariant-loop-i
invariant-loop-i l = l.out.items ≡ l.fn.out.items ++ complement_code l.fn.at l.i

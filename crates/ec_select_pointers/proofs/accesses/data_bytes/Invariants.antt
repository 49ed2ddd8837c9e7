use Rattle.std.proofs.Common.{◌≡◌, ◌++◌}
use Rattle.ec_select_pointers.specs.Accesses.{data_bytes}
use Rattle.ec_select_pointers.proofs.accesses.data_bytes.Given as goal

abbrev pub invariant-loop-i : goal.invariant-loop-i
invariant-loop-i l = l.out.items ≡ l.fn.out.items ++ data_bytes l.fn.to l.i

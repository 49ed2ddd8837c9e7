use Rattle.std.proofs.Common.{◌≡◌, ◌++◌}
use Rattle.ec_select_pointers.specs.Accesses.{store_bytes}
use Rattle.ec_select_pointers.proofs.accesses.store_bytes.Given as goal

abbrev pub invariant-loop-i : goal.invariant-loop-i
invariant-loop-i l = l.out.items ≡ l.fn.out.items ++ store_bytes l.fn.from l.i

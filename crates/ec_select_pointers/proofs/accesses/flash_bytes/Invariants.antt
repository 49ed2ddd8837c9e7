use Rattle.std.proofs.Common.{◌≡◌, ◌++◌}
use Rattle.ec_select_pointers.specs.Accesses.{flash_bytes}
use Rattle.ec_select_pointers.proofs.accesses.flash_bytes.Given as goal

abbrev pub invariant-loop-i : goal.invariant-loop-i
invariant-loop-i l = l.out.items ≡ l.fn.out.items ++ flash_bytes l.fn.to l.i

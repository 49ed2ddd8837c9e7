use Rattle.std.proofs.Common.{◌≡◌, ◌++◌}
use Rattle.ec_select_operations.specs.Stores.{store_number_code}
use Rattle.ec_select_operations.proofs.stores.store_number.Given as goal

abbrev pub invariant-loop-i : goal.invariant-loop-i
invariant-loop-i l = l.out.items ≡ l.fn.out.items ++ store_number_code l.fn.to l.fn.number l.i

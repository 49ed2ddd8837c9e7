use Rattle.std.proofs.Common.{◌≡◌, ◌++◌}
use Rattle.ec_asm.specs.Items.{chain}
use Rattle.ec_select_operations.specs.Code.{pair_code}
use Rattle.ec_select_operations.proofs.transfers.copy_pairs.Given as goal

abbrev pub invariant-loop-i : goal.invariant-loop-i
invariant-loop-i l = l.out.items ≡ l.fn.out.items ++ chain (pair_code l.fn.from l.fn.to) l.i

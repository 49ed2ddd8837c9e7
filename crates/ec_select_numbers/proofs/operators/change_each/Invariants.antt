use Rattle.std.proofs.Common.{◌≡◌, ◌++◌}
use Rattle.ec_select_numbers.specs.ByNumber.{each_changed}
use Rattle.ec_select_numbers.proofs.operators.change_each.Given as goal

abbrev pub invariant-loop-i : goal.invariant-loop-i
invariant-loop-i l = l.out.items ≡ l.fn.out.items ++ each_changed l.fn.op l.fn.to l.fn.number l.i

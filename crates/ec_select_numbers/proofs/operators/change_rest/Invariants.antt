use Rattle.std.proofs.Common.{◌≡◌, ◌++◌}
use Rattle.ec_select_numbers.specs.ByNumber.{rest_changed}
use Rattle.ec_select_numbers.proofs.operators.change_rest.Given as goal

abbrev pub invariant-loop-i : goal.invariant-loop-i
invariant-loop-i l = l.out.items ≡ l.fn.out.items ++ rest_changed l.fn.op l.fn.r l.fn.number l.i

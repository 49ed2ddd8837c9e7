use Rattle.std.proofs.Common.{◌≡◌, ◌++◌}
use Rattle.ec_select_numbers.specs.ByNumber.{compared_code}
use Rattle.ec_select_numbers.proofs.comparisons.compare_with.Given as goal

abbrev pub invariant-loop-i : goal.invariant-loop-i
invariant-loop-i l = l.out.items ≡ l.fn.out.items ++ compared_code l.fn.at l.fn.number l.i

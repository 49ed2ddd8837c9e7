use Rattle.std.proofs.Common.{◌≡◌, ◌++◌}
use Rattle.ec_select_quotients.specs.Signs.{turn_divisor_code}
use Rattle.ec_select_quotients.proofs.signs.turn_divisor.Given as goal

abbrev pub invariant-loop-i : goal.invariant-loop-i
invariant-loop-i l = l.out.items ≡ l.fn.out.items ++ turn_divisor_code l.i

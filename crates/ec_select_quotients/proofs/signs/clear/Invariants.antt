use Rattle.std.proofs.Common.{◌≡◌, ◌++◌}
use Rattle.ec_select_quotients.specs.Signs.{clear_code}
use Rattle.ec_select_quotients.proofs.signs.clear.Given as goal

abbrev pub invariant-loop-i : goal.invariant-loop-i
invariant-loop-i l = l.out.items ≡ l.fn.out.items ++ clear_code l.i

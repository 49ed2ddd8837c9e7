use Rattle.std.proofs.Common.{◌≡◌, ◌++◌}
use Rattle.ec_select_quotients.specs.Quotients.{rotate_code}
use Rattle.ec_select_quotients.proofs.quotients.rotate.Given as goal

abbrev pub invariant-loop-i : goal.invariant-loop-i
invariant-loop-i l = l.out.items ≡ l.fn.out.items ++ rotate_code l.i

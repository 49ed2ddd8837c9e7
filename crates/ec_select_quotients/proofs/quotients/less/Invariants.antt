use Rattle.std.proofs.Common.{◌≡◌, ◌++◌}
use Rattle.ec_select_quotients.specs.Quotients.{less_code}
use Rattle.ec_select_quotients.proofs.quotients.less.Given as goal

abbrev pub invariant-loop-i : goal.invariant-loop-i
invariant-loop-i l = l.out.items ≡ l.fn.out.items ++ less_code l.i

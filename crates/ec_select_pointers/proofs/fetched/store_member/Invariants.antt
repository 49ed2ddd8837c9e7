use Rattle.std.proofs.Common.{◌≡◌, ◌++◌}
use Rattle.ec_select_pointers.specs.Fetched.{store_member_code}
use Rattle.ec_select_pointers.proofs.fetched.store_member.Given as goal

abbrev pub invariant-loop-i : goal.invariant-loop-i
invariant-loop-i l = l.out.items ≡ l.fn.out.items ++ store_member_code l.fn.displacement l.fn.from l.i

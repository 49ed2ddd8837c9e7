use Rattle.std.proofs.Common.{◌≡◌, ◌++◌}
use Rattle.ec_select_pointers.specs.Fetched.{load_member_code}
use Rattle.ec_select_pointers.proofs.fetched.load_member.Given as goal

abbrev pub invariant-loop-i : goal.invariant-loop-i
invariant-loop-i l = l.out.items ≡ l.fn.out.items ++ load_member_code l.fn.displacement l.fn.to l.i

use Rattle.std.proofs.Common.{◌≡◌, ◌++◌}
use Rattle.ec_select_pointers.specs.Fetched.{fetch_code}
use Rattle.ec_select_pointers.proofs.fetched.fetch.Given as goal

abbrev pub invariant-loop-i : goal.invariant-loop-i
invariant-loop-i l = l.out.items ≡ l.fn.out.items ++ fetch_code l.fn.pointer l.i

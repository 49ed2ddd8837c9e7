use Rattle.std.proofs.Common.{◌≡◌, ◌++◌}
use Rattle.ec_select_places.specs.Distances.{halvings_code}
use Rattle.ec_select_places.proofs.distances.halvings.Given as goal

abbrev pub invariant-loop-i : goal.invariant-loop-i
invariant-loop-i l = l.out.items ≡ l.fn.out.items ++ halvings_code l.i

use Rattle.std.proofs.Common.{◌≡◌, ◌++◌}
use Rattle.ec_select_places.specs.Indexes.{pairs_code}
use Rattle.ec_select_places.proofs.indexes.add_pairs.Given as goal

abbrev pub invariant-loop-i : goal.invariant-loop-i
invariant-loop-i l = l.out.items ≡ l.fn.out.items ++ pairs_code l.fn.minus l.fn.r l.fn.d l.i

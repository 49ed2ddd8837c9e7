use Rattle.std.proofs.Common.{◌≡◌, ◌+◌, ◌++◌, map, drop}
use Rattle.ec_select.specs.Seen.{plain_row}
use Rattle.ec_select.specs.Sharing.{routines_among}
use Rattle.ec_select.proofs.routines.add_routines.Given as goal

abbrev pub invariant-loop-k : goal.invariant-loop-k
invariant-loop-k l =
    l.out.items ++ routines_among (l.first + l.k) (drop l.k (map plain_row l.rows))
    ≡ l.fn.out.items ++ routines_among l.first (map plain_row l.rows)

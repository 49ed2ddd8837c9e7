use Rattle.std.proofs.Common.{◌≡◌, ◌+◌, map, drop}
use Rattle.ec_ir.specs.Operations.{plain_ir}
use Rattle.ec_select.specs.Seen.{plain_row}
use Rattle.ec_select.specs.Sharing.{label_among, shape_of}
use Rattle.ec_select.proofs.routines.routine_of.Given as goal

abbrev pub invariant-loop-k : goal.invariant-loop-k
invariant-loop-k l =
    label_among l.first (map plain_row l.rows) (shape_of (plain_ir l.i))
    ≡ label_among (l.first + l.k) (drop l.k (map plain_row l.rows)) (shape_of (plain_ir l.i))

use Rattle.std.proofs.Common.{◌≡◌, ◌++◌, map, drop}
use Rattle.ec_ir.specs.Operations.{plain_ir}
use Rattle.ec_select.specs.Seen.{plain_row}
use Rattle.ec_select.specs.Sharing.{routine_among}
use Rattle.ec_select.proofs.routines.routines_of.Given as goal

abbrev pub invariant-loop-i : goal.invariant-loop-i
invariant-loop-i l =
    l.routines.items ++ map (routine_among l.first (map plain_row l.rows)) (drop l.i-index (map plain_ir l.code))
    ≡ map (routine_among l.first (map plain_row l.rows)) (map plain_ir l.code)

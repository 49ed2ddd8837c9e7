use Rattle.std.proofs.Common.{◌≡◌, map, drop}
use Rattle.std.specs.List.{AllByRecursion}
use Rattle.ec_select.specs.Seen.{plain_row, plain_use, row_operation, HasRoutine}
use Rattle.ec_select.specs.Sharing.{row_of, used_shapes}
use Rattle.ec_select.proofs.sharing.rows_of.Given as goal

abbrev pub invariant-loop-k : goal.invariant-loop-k
invariant-loop-k l = record {
  rows : map plain_row l.rows.items ≡ map (row_of (map plain_use l.uses)) (used_shapes (drop l.k (map plain_use l.uses)));
  each : AllByRecursion HasRoutine (map row_operation l.rows.items);
}

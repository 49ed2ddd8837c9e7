use Rattle.std.proofs.Common.{◌≡◌}
use Rattle.ec_select_operations.specs.Needs.{without_result}
use Rattle.ec_select_operations.specs.Written.{row_from}
use Rattle.ec_select_live.specs.Tables.{need_of}
use Rattle.ec_select_live.proofs.calls.row_of.Given as goal

abbrev pub invariant-loop-place : goal.invariant-loop-place
invariant-loop-place l = l.row.items ≡ row_from l.place 0 (without_result l.fn.to (need_of l.fn.need))

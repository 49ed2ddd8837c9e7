use Rattle.std.proofs.Common.{◌≡◌}
use Rattle.ec_check_recursion.specs.Rows.{plain_rows}
use Rattle.ec_locate.specs.Calls.{chains}
use Rattle.ec_locate.proofs.calls.depths_of.Given as goal

abbrev pub invariant-loop-round : goal.invariant-loop-round
invariant-loop-round l = l.depths.items ≡ chains l._round (plain_rows l.rows)

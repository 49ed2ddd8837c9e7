use Rattle.std.proofs.Common.{◌≡◌, length}
use Rattle.ec_select_live.proofs.calls.empty_rows.Given as goal

abbrev pub invariant-loop-k : goal.invariant-loop-k
invariant-loop-k l = length l.rows.items ≡ l._k

use Rattle.std.proofs.Common.{◌≡◌, replicate, map}
use Rattle.ec_select_live.proofs.table.LabelNeeds.new.Given as goal

abbrev pub invariant-loop-k : goal.invariant-loop-k
invariant-loop-k l = map (λ r. r.items) l.rows.items ≡ replicate l._k (replicate l.slots 0)

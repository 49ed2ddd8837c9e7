use Rattle.std.proofs.Common.{◌≡◌, ◌+◌, map, take}
use Rattle.ec_locate.specs.Calls.{deepest}
use Rattle.ec_locate.proofs.calls.longer.Given as goal

abbrev pub invariant-loop-row : goal.invariant-loop-row
invariant-loop-row l = l.made.items ≡ map (λ row. 1 + deepest l.depths row.items) (take l.row-index l.rows)

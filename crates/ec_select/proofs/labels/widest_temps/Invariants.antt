use Rattle.std.proofs.Common.{◌≡◌, map, drop}
use Rattle.ec_ir.specs.Operations.{plain_ir}
use Rattle.ec_select.specs.Labels.{widest_temps}
use Rattle.ec_select.proofs.labels.widest_temps.Given as goal

abbrev pub invariant-loop-k : goal.invariant-loop-k
invariant-loop-k l = l.bytes ≡ widest_temps (drop l.k (map plain_ir l.code))

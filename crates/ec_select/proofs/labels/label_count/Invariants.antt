use Rattle.std.proofs.Common.{◌≡◌, map, drop}
use Rattle.ec_ir.specs.Operations.{plain_ir}
use Rattle.ec_select.specs.Labels.{label_count}
use Rattle.ec_select.proofs.labels.label_count.Given as goal

abbrev pub invariant-loop-k : goal.invariant-loop-k
invariant-loop-k l = l.count ≡ label_count (drop l.k (map plain_ir l.code))

use Rattle.std.proofs.Common.{map, drop}
use Rattle.ec_ir.specs.Operations.{plain_ir}
use Rattle.ec_select_live.specs.Least.{HaveLabels}
use Rattle.ec_select_live.proofs.labels.label_count.Given as goal

abbrev pub invariant-loop-k : goal.invariant-loop-k
invariant-loop-k l = HaveLabels l.count (drop l.k (map plain_ir l.code))

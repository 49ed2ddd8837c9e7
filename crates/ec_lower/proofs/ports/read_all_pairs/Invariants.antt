use Rattle.std.proofs.Common.{drop}
use Rattle.std.specs.List.{AllByRecursion}
use Rattle.ec_lower_code.specs.Correct.{HasBytePairs}
use Rattle.ec_lower.proofs.ports.read_all_pairs.Given as goal

abbrev pub invariant-loop-group : goal.invariant-loop-group
invariant-loop-group l =
    AllByRecursion HasBytePairs (drop l.group-index l.groups) → AllByRecursion HasBytePairs l.groups

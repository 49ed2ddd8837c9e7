use Rattle.std.proofs.Common.{drop}
use Rattle.std.specs.List.{AllByRecursion}
use Rattle.ec_lower_code.specs.Correct.{HasByteBases}
use Rattle.ec_lower.proofs.ports.read_all_bases.Given as goal

abbrev pub invariant-loop-dynamic : goal.invariant-loop-dynamic
invariant-loop-dynamic l =
    AllByRecursion HasByteBases (drop l.dynamic-index l.dynamics) → AllByRecursion HasByteBases l.dynamics

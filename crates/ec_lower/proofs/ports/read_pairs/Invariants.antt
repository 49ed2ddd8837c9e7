use Rattle.std.proofs.Common.{drop}
use Rattle.std.specs.List.{AllByRecursion}
use Rattle.ec_lower_code.specs.Correct.{IsBytePair}
use Rattle.ec_lower.proofs.ports.read_pairs.Given as goal

abbrev pub invariant-loop-pair : goal.invariant-loop-pair
invariant-loop-pair l = AllByRecursion IsBytePair (drop l.pair-index l.pairs) → AllByRecursion IsBytePair l.pairs

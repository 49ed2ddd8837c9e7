use Rattle.std.proofs.Common.{◌≡◌, map, take}
use Rattle.toml.specs.View.{view}
use Rattle.ec_map.specs.Maps.{pair_of}
use Rattle.ec_map.proofs.map.pairs_from.Given as goal

abbrev pub invariant-loop-array : goal.invariant-loop-array
invariant-loop-array l = l.pairs.items ≡ map (λ v. pair_of (view v)) (take l.array-index l.arrays)

use Rattle.std.proofs.Common.{arith}
use Rattle.toml.specs.View.{view}
use Rattle.ec_map.specs.Maps.{pair_of}
use Rattle.ec_map.proofs.Made.{listed_all}
use Rattle.ec_map.proofs.map.pairs_from.Goals as goal

pub returns : goal.returns
returns c = listed_all pair_of view c.loop-array.pairs.items c.args.arrays.now c.loop-array.array-index c.loop-array.invariant (omega arith)

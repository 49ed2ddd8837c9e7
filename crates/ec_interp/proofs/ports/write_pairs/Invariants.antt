use Rattle.std.proofs.Common.{◌≡◌, drop}
use Rattle.ec_core.specs.PortAccesses.{pairs_written}
use Rattle.ec_interp.specs.Views.{seen}
use Rattle.ec_interp.proofs.ports.write_pairs.Given as goal

abbrev pub invariant-loop-pair : goal.invariant-loop-pair
invariant-loop-pair l = pairs_written (drop l.pair-index l.pairs) (seen l.s) ≡ pairs_written l.pairs (seen l.fn.s)

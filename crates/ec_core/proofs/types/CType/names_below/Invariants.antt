use Rattle.std.proofs.Common.{◌≡◌}
use Rattle.ec_core.specs.Layers.{names_below}
use Rattle.ec_core.specs.Plain.{plain_type}
use Rattle.ec_core.proofs.types.CType.names_below.Given as goal

abbrev pub invariant-loop-at : goal.invariant-loop-at
invariant-loop-at l = names_below l.count (plain_type l.at) ≡ names_below l.count (plain_type l.self)

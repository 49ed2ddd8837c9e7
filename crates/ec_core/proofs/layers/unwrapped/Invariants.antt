use Rattle.std.proofs.Common.{◌≡◌}
use Rattle.ec_core.specs.Layers.{within}
use Rattle.ec_core.specs.Plain.{plain_type}
use Rattle.ec_core.proofs.layers.unwrapped.Given as goal

abbrev pub invariant-loop-at : goal.invariant-loop-at
invariant-loop-at l = within l.layers.items (plain_type l.at) ≡ plain_type l.ty

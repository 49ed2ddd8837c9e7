use Rattle.std.proofs.Common.{◌≡◌}
use Rattle.ec_core.specs.Layers.{within}
use Rattle.ec_core.specs.Plain.{plain_type}
use Rattle.ec_core.proofs.layers.wrapped.Given as goal

abbrev pub invariant-loop-layer : goal.invariant-loop-layer
invariant-loop-layer l = within l.layers.items (plain_type l.ty) ≡ within l.fn.layers.items (plain_type l.fn.inner)

abbrev pub decreases-loop-layer : goal.decreases-loop-layer
decreases-loop-layer l = goal.left-loop-layer l

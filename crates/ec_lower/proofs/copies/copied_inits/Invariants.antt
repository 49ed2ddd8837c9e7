use Rattle.std.proofs.Common.{◌≡◌, take}
use Rattle.ec_lower.proofs.copies.copied_inits.Given as goal

abbrev pub invariant-loop-init : goal.invariant-loop-init
invariant-loop-init l = l.copy.items ≡ take l.init-index l.inits

use Rattle.std.proofs.Common.{◌≡◌, ◌++◌, drop, map}
use Rattle.ec_core.specs.Layout.{plain_leaf}
use Rattle.ec_check_initialisers.specs.Items.{zero_leaf}
use Rattle.ec_check_initialisers.proofs.statics.push_zeros.Given as goal

abbrev pub invariant-loop-leaf : goal.invariant-loop-leaf
invariant-loop-leaf l =
    l.es.items ++ map (λ leaf. zero_leaf leaf.ty) (map plain_leaf (drop l.leaf-index l.rest))
    ≡ l.fn.es.items ++ map (λ leaf. zero_leaf leaf.ty) (map plain_leaf l.rest)

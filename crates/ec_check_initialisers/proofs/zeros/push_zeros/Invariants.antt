use Rattle.std.proofs.Common.{◌≡◌, ◌++◌, drop, map}
use Rattle.ec_core.specs.Layout.{plain_leaf}
use Rattle.ec_core.specs.Plain.{plain_expr}
use Rattle.ec_check_initialisers.specs.Parts.{zero_of}
use Rattle.ec_check_initialisers.proofs.zeros.push_zeros.Given as goal

abbrev pub invariant-loop-leaf : goal.invariant-loop-leaf
invariant-loop-leaf l =
    map plain_expr l.es.items ++ map (λ leaf. zero_of l.modes leaf.ty) (map plain_leaf (drop l.leaf-index l.rest))
    ≡ map plain_expr l.fn.es.items ++ map (λ leaf. zero_of l.modes leaf.ty) (map plain_leaf l.rest)

use Rattle.std.proofs.Common.{◌≡◌, ◌++◌, map, drop}
use Rattle.ec_core.specs.Layout.{plain_leaf}
use Rattle.ec_locate.specs.Image.{leaf_bytes}
use Rattle.ec_locate.proofs.image.leaf_bytes.Given as goal

abbrev pub invariant-loop-i : goal.invariant-loop-i
invariant-loop-i l =
    l.out.items ++ leaf_bytes l.places l.i (map plain_leaf (drop l.i l.leaves)) l.inits
    ≡ leaf_bytes l.places 0 (map plain_leaf l.leaves) l.inits

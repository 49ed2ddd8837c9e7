use Rattle.std.proofs.Common.{◌≡◌, Bool, drop, map}
use Rattle.std.specs.Prelude.{◌==◌, ◌&&◌}
use Rattle.std.specs.List.{position_from}
use Rattle.ec_core.specs.Layout.{PlainLeaf, plain_leaf}
use Rattle.ec_core.specs.Operators.{same_type}
use Rattle.ec_core.specs.Plain.{plain_type}
use Rattle.ec_interp.proofs.accesses.leaf_among.Given as goal

abbrev pub invariant-loop-k : goal.invariant-loop-k
invariant-loop-k l =
    let test : PlainLeaf → Bool = λ leaf. leaf.at == l.offset && same_type leaf.ty (plain_type l.ty) in
    position_from test l.k (map plain_leaf (drop l.k l.leaves)) ≡ position_from test 0 (map plain_leaf l.leaves)

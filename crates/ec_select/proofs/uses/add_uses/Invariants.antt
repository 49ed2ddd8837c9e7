use Rattle.std.proofs.Common.{◌≡◌, ◌++◌, map, drop}
use Rattle.ec_ir.specs.Operations.{plain_ir}
use Rattle.ec_select_operations.specs.Emitted.{declarations}
use Rattle.ec_select.specs.Seen.{plain_use}
use Rattle.ec_select.specs.Sharing.{uses_in}
use Rattle.ec_select.proofs.uses.add_uses.Given as goal

abbrev pub invariant-loop-k : goal.invariant-loop-k
invariant-loop-k l =
    map plain_use l.uses.items ++ uses_in l.core (declarations l.ir) l.homes (drop l.k l.wanted) (drop l.k l.known)
    (drop l.k (map plain_ir l.code))
    ≡ map plain_use l.fn.uses.items ++ uses_in l.core (declarations l.ir) l.homes l.wanted l.known (map plain_ir l.code)

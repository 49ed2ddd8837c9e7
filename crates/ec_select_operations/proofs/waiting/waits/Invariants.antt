use Rattle.std.proofs.Common.{◌≡◌, ◌+◌, ◌-◌, map}
use Rattle.ec_ir.specs.Operations.{plain_ir}
use Rattle.ec_select_operations.specs.Code.{look, waits}
use Rattle.ec_select_operations.specs.Emitted.{declarations}
use Rattle.ec_select_operations.specs.Homes.{home}
use Rattle.ec_select_operations.proofs.waiting.waits.Given as goal

abbrev pub invariant-loop-n : goal.invariant-loop-n
invariant-loop-n l =
    l.later ≡ waits (declarations l.fn.program) (home l.fn.homes) l.fn.place l.fn.offset
    (look l.n (map plain_ir l.fn.code) l.fn.wanted l.fn.known (l.fn.k + (8 - l.n)))

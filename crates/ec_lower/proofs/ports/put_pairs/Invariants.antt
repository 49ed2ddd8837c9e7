use Rattle.std.proofs.Common.{◌≡◌, ◌++◌, List, drop, map}
use Rattle.ec_ir.specs.Operations.{PlainIr, plain_ir}
use Rattle.ec_lower_code.specs.Code.{pairs_code}
use Rattle.ec_lower.proofs.ports.put_pairs.Given as goal

abbrev pub invariant-loop-pair : goal.invariant-loop-pair
invariant-loop-pair l =
    (rest : List PlainIr) → map plain_ir l.code.items ++ pairs_code (drop l.pair-index l.pairs) l.t rest
    ≡ map plain_ir l.fn.code.items ++ pairs_code l.pairs l.t rest

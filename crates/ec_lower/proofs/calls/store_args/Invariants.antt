use Rattle.std.proofs.Common.{◌≡◌, ◌++◌, List, drop, map}
use Rattle.ec_core.specs.Plain.{plain_exprs}
use Rattle.ec_ir.specs.Operations.{PlainIr, plain_ir}
use Rattle.ec_lower_code.specs.Code.{params_code}
use Rattle.ec_lower.proofs.calls.store_args.Given as goal

abbrev pub invariant-loop-i : goal.invariant-loop-i
invariant-loop-i l =
    (rest : List PlainIr) → map plain_ir l.code.items ++ params_code (drop l.i l.params) (plain_exprs (drop l.i l.args)) l.u rest
    ≡ map plain_ir l.fn.code.items ++ params_code l.params (plain_exprs l.args) l.fn.t rest

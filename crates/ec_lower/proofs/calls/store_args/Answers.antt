use Rattle.std.proofs.Common.{◌++◌, ◌∙◌, ap, sym, List, drop, map}
use Rattle.ec_ir.specs.Operations.{PlainIr, plain_ir}
use Rattle.ec_lower.proofs.Steps.{list_end, params_out}
use Rattle.ec_lower.proofs.calls.store_args.Goals as goal

pub returns-in-None : goal.returns-in-None
returns-in-None c = λ rest.
    ap (λ (z : List PlainIr). map plain_ir c.loop-i.code.items ++ z)
    (sym (params_out (drop c.loop-i.i c.args.params.now) (drop c.loop-i.i c.args.args.now) c.loop-i.u rest
    (list_end c.args.args.now c.loop-i.i c.in-None.ensures.lookup.3))) ∙ c.loop-i.invariant rest

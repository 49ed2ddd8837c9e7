use Rattle.std.proofs.Common.{◌++◌, ◌∙◌, ap, sym, map}
use Rattle.ec_core.specs.Plain.{plain_function, plain_program, plain_exprs}
use Rattle.ec_ir.specs.Operations.{plain_ir}
use Rattle.ec_lower_code.specs.Code.{params_code}
use Rattle.ec_lower.proofs.Steps.{seen_at, so, params_some, params_absent}
use Rattle.ec_lower.proofs.calls.store_call.Goals as goal

pub returns-in-None : goal.returns-in-None
returns-in-None c = λ rest.
    (let e = params_absent (plain_program c.args.program.now) c.args.f
    (seen_at plain_function c.args.program.now.funcs.items c.args.f _ c.in-None.ensures) in
    ap (λ os. map plain_ir c.args.code.now.items ++ params_code os (plain_exprs c.args.args.now) c.args.t rest) (sym e))

pub returns-in-Some : goal.returns-in-Some
returns-in-Some c =
    let e = params_some (plain_program c.args.program.now) c.args.f (plain_function c.in-Some.g.now)
    (seen_at plain_function c.args.program.now.funcs.items c.args.f _ c.in-Some.ensures) in
    so c.store_args.result c.store_args.ensures (λ h rest. rw (c.as_slice.ensures) at (h rest)
    ∙ ap (λ os. map plain_ir c.args.code.now.items ++ params_code os (plain_exprs c.args.args.now) c.args.t rest) (sym e))

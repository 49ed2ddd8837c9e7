use Rattle.std.proofs.Common.{◌∙◌, sym}
use Rattle.ec_core.specs.Plain.{plain_expr}
use Rattle.ec_core_steps.proofs.Declared.{int_value}
use Rattle.ec_core_steps.proofs.counted.int_constant.Goals as goal

pub returns-in-Ok : goal.returns-in-Ok
returns-in-Ok c =
    int_value (plain_expr c.args.e.now) c.in-Ok.n c.narrowed.result (sym c.is_int_type.ensures ∙ c.if-is_int_type.true)
    (sym c.is_constant.ensures.value ∙ c.if-is_constant.true) (sym c.constant.ensures.value ∙ c.in-Ok.is) c.in-Ok.ensures.held
    c.narrowed.ensures

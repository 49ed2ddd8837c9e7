use Rattle.std.proofs.Common.{sym, ◌∙◌}
use Rattle.ec_core.specs.Plain.{plain_expr}
use Rattle.ec_check_constants.proofs.typed.is_constant.Goals as goal

pub returns-clause-sound : goal.returns-clause-sound
returns-clause-sound c =
    λ h. c.tests_tell_constants.ensures.sound (plain_expr c.args.e.now) (sym c.is_constant_expression.ensures ∙ h)

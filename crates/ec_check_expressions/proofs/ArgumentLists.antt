-- The arguments of a call.
use Rattle.std.proofs.Common.{◌≡◌, refl, ap, List, [], ◌∷◌, map}
use Rattle.std.specs.Prelude.{Option, Some, None, option_map}
use Rattle.ec_space.specs.Listed.{Listed}
use Rattle.ec_core.specs.declared.expressions.Expr.{Expr}
use Rattle.ec_core.specs.Plain.{plain_expr, plain_exprs, next_expr}
use Rattle.ec_check_expressions.specs.Arguments.{plain_arguments}
use Rattle.ec_check_expressions.specs.Callees.{exprs_of}

pub exprs_are : (es : List Expr) → plain_exprs es ≡ exprs_of (map plain_expr es)
exprs_are [] = refl
exprs_are (e ∷ es) = ap (next_expr (plain_expr e)) (exprs_are es)

pub args_are : (args : Option (Listed Expr)) → option_map (λ es. plain_exprs es.items) args ≡ option_map exprs_of (plain_arguments args)
args_are None = refl
args_are (Some es) = ap Some (exprs_are es.items)

-- The calls of parts that may be left out, as the types that hold them have them.
use Rattle.std.specs.Prelude.{ℕ, List, Option, Some, None}
use Rattle.std.specs.Global.{Global}
use Rattle.std.specs.declared.boxed.Box.{Box}
use Rattle.ec_core.specs.declared.expressions.Expr.{Expr}
use Rattle.ec_core.specs.declared.statements.Stmt.{Stmt}
use Rattle.ec_core.specs.Needs.{expr_calls, stmt_calls}
use Rattle.ec_core.specs.Plain.{plain_expr, plain_stmt}

abbrev pub boxed_expr_calls : Option (Box Expr Global) → List ℕ → List ℕ
boxed_expr_calls None rest = rest
boxed_expr_calls (Some e) rest = expr_calls (plain_expr e.value) rest

abbrev pub boxed_stmt_calls : Option (Box Stmt Global) → List ℕ → List ℕ
boxed_stmt_calls None rest = rest
boxed_stmt_calls (Some s) rest = stmt_calls (plain_stmt s.value) rest

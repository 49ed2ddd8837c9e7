-- Parts that may be left out, as the types that hold them have them.
use Rattle.std.specs.Prelude.{Option, Some, None}
use Rattle.std.specs.Global.{Global}
use Rattle.std.specs.declared.boxed.Box.{Box}
use Rattle.ec_core.specs.declared.expressions.Expr.{Expr}
use Rattle.ec_core.specs.declared.statements.Stmt.{Stmt}
use Rattle.ec_core.specs.Plain.{OptionPlainExpr, no_expr, an_expr, OptionPlainStmt, no_stmt, a_stmt, plain_expr, plain_stmt}

abbrev pub boxed_expr : Option (Box Expr Global) → OptionPlainExpr
boxed_expr None = no_expr
boxed_expr (Some e) = an_expr (plain_expr e.value)

abbrev pub boxed_stmt : Option (Box Stmt Global) → OptionPlainStmt
boxed_stmt None = no_stmt
boxed_stmt (Some s) = a_stmt (plain_stmt s.value)

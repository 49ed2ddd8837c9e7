-- Rows and lists of expressions and statements show as the same plain trees.
use Rattle.std.proofs.Common.{◌≡◌, ap, refl}
use mathlib.Core.Former.{Count}
use Rattle.ec_core.specs.Generated.{ExprRow, LastExpr, NextExpr, row_exprs, StmtRow, LastStmt, NextStmt, row_stmts}
use Rattle.ec_core.specs.Plain.{expression, next_expr, plain_type, plain_node, plain_expr_row, plain_exprs, statement, next_stmt}
use Rattle.ec_core.specs.Plain.{plain_kind, plain_stmt_row, plain_stmts}

pub plain_expr_row-row : (m : Count) (r : ExprRow m) → plain_expr_row r ≡ plain_exprs (row_exprs m r)
plain_expr_row-row _ LastExpr = refl
plain_expr_row-row _ (NextExpr ty mode node rest) =
    ap (next_expr (expression (plain_type ty) mode (plain_node node))) (plain_expr_row-row _ rest)

pub plain_stmt_row-row : (m : Count) (r : StmtRow m) → plain_stmt_row r ≡ plain_stmts (row_stmts m r)
plain_stmt_row-row _ LastStmt = refl
plain_stmt_row-row _ (NextStmt u at s rest) = ap (next_stmt (statement u at (plain_kind s))) (plain_stmt_row-row _ rest)

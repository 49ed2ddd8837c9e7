-- Calls and blocks as plain trees.
use Rattle.std.proofs.Common.{◌≡◌, ℕ, rules}
use Rattle.ec_space.specs.Listed.{Listed}
use Rattle.ec_core.specs.declared.expressions.Expr.{Expr}
use Rattle.ec_core.specs.declared.expressions.Node.{Call, the_lemmas as node_lemmas}
use Rattle.ec_core.specs.declared.statements.Stmt.{Stmt}
use Rattle.ec_core.specs.declared.statements.StmtKind.{Block, the_lemmas as kind_lemmas}
use Rattle.ec_core.specs.Plain.{call, block, plain_node, plain_kind, plain_exprs, plain_stmts}
use Rattle.ec_core.proofs.Rows.{plain_expr_row-row, plain_stmt_row-row}

pub plain_call : (f : ℕ) (args : Listed Expr) → plain_node (Call f args) ≡ call f (plain_exprs args.items)
plain_call f args = search (rules, plain_expr_row-row, node_lemmas)

pub plain_block : (ss : Listed Stmt) → plain_kind (Block ss) ≡ block (plain_stmts ss.items)
plain_block ss = search (rules, plain_stmt_row-row, kind_lemmas)

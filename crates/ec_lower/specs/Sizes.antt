-- How large trees are, for the proof that the lowering ends.
use Rattle.std.specs.Prelude.{ℕ, ◌+◌, Option, Some, None}
use Rattle.ec_core.specs.Plain.{PlainExpr, expression, PlainNode, number, null, load, address_of, unary, binary}
use Rattle.ec_core.specs.Plain.{convert, assign, compound, step, logical_not, logical_and, logical_or, conditional}
use Rattle.ec_core.specs.Plain.{comma, call, io, group, bind, dynamic_group, PlainPlace, object, deref, member}
use Rattle.ec_core.specs.Plain.{OptionPlainExpr, no_expr}
use Rattle.ec_core.specs.Plain.{an_expr, PlainExprs, last_expr, next_expr, PlainStmt, statement, PlainKind, empty}
use Rattle.ec_core.specs.Plain.{evaluate, block, declare, branch, while_loop, do_loop, for_loop, break_loop}
use Rattle.ec_core.specs.Plain.{continue_loop, return_value, OptionPlainStmt, no_stmt, a_stmt, PlainStmts, last_stmt}
use Rattle.ec_core.specs.Plain.{next_stmt}

abbrev mutual
  pub expr_size : PlainExpr → ℕ
  expr_size (expression ty mode node) = node_size node + 1

  pub node_size : PlainNode → ℕ
  node_size (number n) = 1
  node_size null = 1
  node_size (load p) = place_size p + 1
  node_size (address_of p) = place_size p + 1
  node_size (unary op a) = expr_size a + 1
  node_size (binary op a b) = expr_size a + expr_size b + 2
  node_size (convert a) = expr_size a + 1
  node_size (assign p a) = place_size p + expr_size a + 1
  node_size (compound op mode p a) = place_size p + expr_size a + 2
  node_size (step up prefix p) = place_size p + 2
  node_size (logical_not a) = expr_size a + 2
  node_size (logical_and a b) = expr_size a + expr_size b + 2
  node_size (logical_or a b) = expr_size a + expr_size b + 2
  node_size (conditional c a b) = expr_size c + expr_size a + expr_size b + 2
  node_size (comma a b) = expr_size a + expr_size b + 1
  node_size (call f args) = exprs_size args + 1
  node_size (io op port index value) = option_size index + option_size value + 2
  node_size (group acquire g) = 1
  node_size (bind d choice) = 1
  node_size (dynamic_group acquire d) = 1

  pub place_size : PlainPlace → ℕ
  place_size (object o) = 1
  place_size (deref e) = expr_size e + 1
  place_size (member p i) = place_size p + 1

  pub option_size : OptionPlainExpr → ℕ
  option_size no_expr = 1
  option_size (an_expr e) = expr_size e + 1

  pub exprs_size : PlainExprs → ℕ
  exprs_size last_expr = 1
  exprs_size (next_expr e es) = expr_size e + exprs_size es

abbrev pub optional_size : Option PlainExpr → ℕ
optional_size None = 1
optional_size (Some e) = expr_size e + 2

abbrev mutual
  pub stmt_size : PlainStmt → ℕ
  stmt_size (statement unit at kind) = kind_size kind

  pub kind_size : PlainKind → ℕ
  kind_size empty = 1
  kind_size (evaluate e) = expr_size e + 1
  kind_size (block ss) = stmts_size ss + 1
  kind_size (declare o es) = exprs_size es + 1
  kind_size (branch c a b) = expr_size c + stmt_size a + option_stmt_size b + 3
  kind_size (while_loop c s) = expr_size c + stmt_size s + 9
  kind_size (do_loop s c) = expr_size c + stmt_size s + 9
  kind_size (for_loop i c n s) = option_stmt_size i + optional_size c + optional_size n + stmt_size s + 9
  kind_size break_loop = 1
  kind_size continue_loop = 1
  kind_size (return_value e) = optional_size e + 1

  pub option_stmt_size : OptionPlainStmt → ℕ
  option_stmt_size no_stmt = 1
  option_stmt_size (a_stmt s) = stmt_size s + 1

  pub stmts_size : PlainStmts → ℕ
  stmts_size last_stmt = 1
  stmts_size (next_stmt s ss) = stmt_size s + stmts_size ss

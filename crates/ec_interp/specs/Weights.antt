-- How large trees are, for the proof that the interpreter ends.
use Rattle.std.specs.Prelude.{ℕ, ◌+◌, List, [], ◌∷◌, Option, Some, None}
use Rattle.ec_core.specs.Plain.{PlainExpr, expression, PlainNode, number, null, load, address_of, unary, binary}
use Rattle.ec_core.specs.Plain.{convert, assign, compound, step, logical_not, logical_and, logical_or, conditional}
use Rattle.ec_core.specs.Plain.{comma, call, io, group, bind, dynamic_group, PlainPlace, object, deref, member}
use Rattle.ec_core.specs.Plain.{OptionPlainExpr, no_expr, an_expr, PlainExprs, last_expr, next_expr, PlainStmt}
use Rattle.ec_core.specs.Plain.{statement, PlainKind, empty, evaluate, block, declare, branch, while_loop, do_loop}
use Rattle.ec_core.specs.Plain.{for_loop, break_loop, continue_loop, return_value, OptionPlainStmt, no_stmt, a_stmt}
use Rattle.ec_core.specs.Plain.{PlainStmts, last_stmt, next_stmt, PlainFunction}

abbrev mutual
  pub expr_weight : PlainExpr → ℕ
  expr_weight (expression ty mode node) = node_weight node + 1

  pub node_weight : PlainNode → ℕ
  node_weight (number n) = 1
  node_weight null = 1
  node_weight (load p) = place_weight p + 3
  node_weight (address_of p) = place_weight p + 3
  node_weight (unary op a) = expr_weight a + 3
  node_weight (binary op a b) = expr_weight a + expr_weight b + 3
  node_weight (convert a) = expr_weight a + 3
  node_weight (assign p a) = place_weight p + expr_weight a + 3
  node_weight (compound op mode p a) = place_weight p + expr_weight a + 3
  node_weight (step up prefix p) = place_weight p + 3
  node_weight (logical_not a) = expr_weight a + 3
  node_weight (logical_and a b) = expr_weight a + expr_weight b + 3
  node_weight (logical_or a b) = expr_weight a + expr_weight b + 3
  node_weight (conditional c a b) = expr_weight c + expr_weight a + expr_weight b + 3
  node_weight (comma a b) = expr_weight a + expr_weight b + 3
  node_weight (call f args) = exprs_weight args + 3
  node_weight (io op port index value) = option_weight index + option_weight value + 3
  node_weight (group acquire g) = 1
  node_weight (bind d choice) = 1
  node_weight (dynamic_group acquire d) = 1

  pub place_weight : PlainPlace → ℕ
  place_weight (object o) = 1
  place_weight (deref e) = expr_weight e + 1
  place_weight (member p i) = place_weight p + 1

  pub option_weight : OptionPlainExpr → ℕ
  option_weight no_expr = 1
  option_weight (an_expr e) = expr_weight e + 1

  pub exprs_weight : PlainExprs → ℕ
  exprs_weight last_expr = 1
  exprs_weight (next_expr e es) = expr_weight e + exprs_weight es

abbrev pub optional_weight : Option PlainExpr → ℕ
optional_weight None = 1
optional_weight (Some e) = expr_weight e + 2

abbrev mutual
  pub stmt_weight : PlainStmt → ℕ
  stmt_weight (statement unit at kind) = kind_weight kind

  pub kind_weight : PlainKind → ℕ
  kind_weight empty = 1
  kind_weight (evaluate e) = expr_weight e + 3
  kind_weight (block ss) = stmts_weight ss + 3
  kind_weight (declare o es) = exprs_weight es + 3
  kind_weight (branch c a b) = expr_weight c + stmt_weight a + option_stmt_weight b + 3
  kind_weight (while_loop c s) = expr_weight c + stmt_weight s + 9
  kind_weight (do_loop s c) = expr_weight c + stmt_weight s + 9
  kind_weight (for_loop i c n s) = option_stmt_weight i + optional_weight c + optional_weight n + stmt_weight s + 9
  kind_weight break_loop = 1
  kind_weight continue_loop = 1
  kind_weight (return_value e) = optional_weight e + 1

  pub option_stmt_weight : OptionPlainStmt → ℕ
  option_stmt_weight no_stmt = 1
  option_stmt_weight (a_stmt s) = stmt_weight s + 1

  pub stmts_weight : PlainStmts → ℕ
  stmts_weight last_stmt = 1
  stmts_weight (next_stmt s ss) = stmt_weight s + stmts_weight ss

-- more than the weight of each body
abbrev pub bodies : List PlainFunction → ℕ
bodies [] = 3
bodies (f ∷ rest) = stmt_weight f.body + bodies rest

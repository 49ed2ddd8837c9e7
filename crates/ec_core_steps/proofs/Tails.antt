-- What holds of all functions that a part calls and of those of what follows holds of the latter.
use Rattle.std.proofs.Common.{ℕ, List, Option, Some, None}
use Rattle.std.specs.List.{AllByRecursion}
use Rattle.ec_core.specs.Needs.{expr_calls, node_calls, place_calls, option_calls, exprs_calls, optional_calls, stmt_calls, kind_calls}
use Rattle.ec_core.specs.Needs.{option_stmt_calls, stmts_calls}
use Rattle.ec_core.specs.Plain.{PlainExpr, expression, PlainNode, number, null, load, address_of, unary, binary, convert, assign, compound}
use Rattle.ec_core.specs.Plain.{step, logical_not, logical_and, logical_or, conditional, comma, call, io, group, bind, dynamic_group}
use Rattle.ec_core.specs.Plain.{PlainPlace, object, deref, member, OptionPlainExpr, no_expr, an_expr, PlainExprs, last_expr, next_expr}
use Rattle.ec_core.specs.Plain.{PlainStmt, statement, PlainKind, empty, evaluate, block, declare, branch, while_loop, do_loop, for_loop}
use Rattle.ec_core.specs.Plain.{break_loop, continue_loop, return_value, OptionPlainStmt, no_stmt, a_stmt, PlainStmts, last_stmt, next_stmt}

module _ (May : ℕ → Type 0) where
  abbrev All : List ℕ → Type 0
  All xs = AllByRecursion May xs

  mutual
    pub expr_tail : (e : PlainExpr) (rest : List ℕ) → All (expr_calls e rest) → All rest
    expr_tail (expression ty mode node) rest h = node_tail node rest h

    pub node_tail : (node : PlainNode) (rest : List ℕ) → All (node_calls node rest) → All rest
    node_tail (number n) rest h = h
    node_tail null rest h = h
    node_tail (load p) rest h = place_tail p rest h
    node_tail (address_of p) rest h = place_tail p rest h
    node_tail (unary op a) rest h = expr_tail a rest h
    node_tail (binary op a b) rest h = expr_tail b rest (expr_tail a _ h)
    node_tail (convert a) rest h = expr_tail a rest h
    node_tail (assign p a) rest h = expr_tail a rest (place_tail p _ h)
    node_tail (compound op mode p a) rest h = expr_tail a rest (place_tail p _ h)
    node_tail (step up prefix p) rest h = place_tail p rest h
    node_tail (logical_not a) rest h = expr_tail a rest h
    node_tail (logical_and a b) rest h = expr_tail b rest (expr_tail a _ h)
    node_tail (logical_or a b) rest h = expr_tail b rest (expr_tail a _ h)
    node_tail (conditional c a b) rest h = expr_tail b rest (expr_tail a _ (expr_tail c _ h))
    node_tail (comma a b) rest h = expr_tail b rest (expr_tail a _ h)
    node_tail (call f args) rest h = row_tail args rest h.1
    node_tail (io op port index value) rest h = option_tail value rest (option_tail index _ h)
    node_tail (group acquire g) rest h = h
    node_tail (bind d choice) rest h = h
    node_tail (dynamic_group acquire d) rest h = h

    pub place_tail : (p : PlainPlace) (rest : List ℕ) → All (place_calls p rest) → All rest
    place_tail (object o) rest h = h
    place_tail (deref e) rest h = expr_tail e rest h
    place_tail (member q i) rest h = place_tail q rest h

    pub option_tail : (e : OptionPlainExpr) (rest : List ℕ) → All (option_calls e rest) → All rest
    option_tail no_expr rest h = h
    option_tail (an_expr e) rest h = expr_tail e rest h

    pub row_tail : (es : PlainExprs) (rest : List ℕ) → All (exprs_calls es rest) → All rest
    row_tail last_expr rest h = h
    row_tail (next_expr e es) rest h = row_tail es rest (expr_tail e _ h)

  pub optional_tail : (e : Option PlainExpr) (rest : List ℕ) → All (optional_calls e rest) → All rest
  optional_tail None rest h = h
  optional_tail (Some e) rest h = expr_tail e rest h

  mutual
    pub stmt_tail : (s : PlainStmt) (rest : List ℕ) → All (stmt_calls s rest) → All rest
    stmt_tail (statement unit at kind) rest h = kind_tail kind rest h

    pub kind_tail : (kind : PlainKind) (rest : List ℕ) → All (kind_calls kind rest) → All rest
    kind_tail empty rest h = h
    kind_tail (evaluate e) rest h = expr_tail e rest h
    kind_tail (block ss) rest h = stmts_tail ss rest h
    kind_tail (declare o es) rest h = row_tail es rest h
    kind_tail (branch c a b) rest h = option_stmt_tail b rest (stmt_tail a _ (expr_tail c _ h))
    kind_tail (while_loop c s) rest h = stmt_tail s rest (expr_tail c _ h)
    kind_tail (do_loop s c) rest h = expr_tail c rest (stmt_tail s _ h)
    kind_tail (for_loop i c n s) rest h = stmt_tail s rest (optional_tail n _ (optional_tail c _ (option_stmt_tail i _ h)))
    kind_tail break_loop rest h = h
    kind_tail continue_loop rest h = h
    kind_tail (return_value e) rest h = optional_tail e rest h

    pub option_stmt_tail : (s : OptionPlainStmt) (rest : List ℕ) → All (option_stmt_calls s rest) → All rest
    option_stmt_tail no_stmt rest h = h
    option_stmt_tail (a_stmt s) rest h = stmt_tail s rest h

    pub stmts_tail : (ss : PlainStmts) (rest : List ℕ) → All (stmts_calls ss rest) → All rest
    stmts_tail last_stmt rest h = h
    stmts_tail (next_stmt s ss) rest h = stmts_tail ss rest (stmt_tail s _ h)

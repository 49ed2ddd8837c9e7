-- How many temporaries the expressions of a function need at once, and which functions it calls.
use Rattle.std.specs.Prelude.{ℕ, ◌+◌, max, if◌then◌else◌, List, [], ◌∷◌, Option, Some, None}
use Rattle.ec_core.specs.Plain.{PlainExpr, expression, PlainNode, number, null, load, address_of, unary, binary}
use Rattle.ec_core.specs.Plain.{convert, assign, compound, step, logical_not, logical_and, logical_or, conditional}
use Rattle.ec_core.specs.Plain.{comma, call, io, group, bind, dynamic_group, PlainPlace, object, deref, member, OptionPlainExpr, no_expr}
use Rattle.ec_core.specs.Plain.{an_expr, PlainExprs, last_expr, next_expr, PlainStmt, statement, PlainKind, empty}
use Rattle.ec_core.specs.Plain.{evaluate, block, declare, branch, while_loop, do_loop, for_loop, break_loop}
use Rattle.ec_core.specs.Plain.{continue_loop, return_value, OptionPlainStmt, no_stmt, a_stmt, PlainStmts, last_stmt}
use Rattle.ec_core.specs.Plain.{next_stmt}
use Rattle.ec_core.specs.PortOperations.{port_operation, is_update}

-- ---- temporaries

-- the greatest of need + place, where the places of the needs are counted from n
abbrev pub greatest_from : ℕ → List ℕ → ℕ
greatest_from n [] = 0
greatest_from n (x ∷ xs) = max (x + n) (greatest_from (n + 1) xs)

-- what a node needs whose operands, in order of evaluation, need this: each operand is worked out while the values
-- before it are kept. A node without operands needs 1
abbrev pub node_need : List ℕ → ℕ
node_need xs = max 1 (greatest_from 0 xs)

-- An expression inside a place comes first. The old value of a compound assignment or step counts as an operand, the 1
-- of a step as another, and the value that an update of a port reads as a last one.
abbrev mutual
  pub expr_need : PlainExpr → ℕ
  expr_need (expression ty mode node) = node_need (operand_needs node)

  pub operand_needs : PlainNode → List ℕ
  operand_needs (number n) = []
  operand_needs null = []
  operand_needs (load p) = place_needs p []
  operand_needs (address_of p) = place_needs p []
  operand_needs (unary op e) = expr_need e ∷ []
  operand_needs (binary op a b) = expr_need a ∷ expr_need b ∷ []
  operand_needs (convert e) = expr_need e ∷ []
  operand_needs (assign p e) = place_needs p (expr_need e ∷ [])
  operand_needs (compound op mode p e) = place_needs p (1 ∷ expr_need e ∷ [])
  operand_needs (step up prefix p) = place_needs p (1 ∷ 1 ∷ [])
  operand_needs (logical_not e) = expr_need e ∷ []
  operand_needs (logical_and a b) = expr_need a ∷ expr_need b ∷ []
  operand_needs (logical_or a b) = expr_need a ∷ expr_need b ∷ []
  operand_needs (conditional c a b) = expr_need c ∷ expr_need a ∷ expr_need b ∷ []
  operand_needs (comma a b) = expr_need a ∷ expr_need b ∷ []
  operand_needs (call f args) = exprs_needs args
  operand_needs (io op port index value) =
      option_needs index (option_needs value (if is_update (port_operation op).action then 1 ∷ [] else []))
  operand_needs (group acquire g) = []
  operand_needs (bind d choice) = []
  -- what the group is bound to, and a base that it is compared with
  operand_needs (dynamic_group acquire d) = 1 ∷ 1 ∷ []

  -- the needs of a place, before those of what follows
  pub place_needs : PlainPlace → List ℕ → List ℕ
  place_needs (object o) rest = rest
  place_needs (deref e) rest = expr_need e ∷ rest
  place_needs (member p i) rest = place_needs p rest

  pub option_needs : OptionPlainExpr → List ℕ → List ℕ
  option_needs no_expr rest = rest
  option_needs (an_expr e) rest = expr_need e ∷ rest

  pub exprs_needs : PlainExprs → List ℕ
  exprs_needs last_expr = []
  exprs_needs (next_expr e es) = expr_need e ∷ exprs_needs es

-- the greatest of some needs
abbrev pub most : List ℕ → ℕ
most [] = 0
most (x ∷ xs) = max x (most xs)

abbrev pub option_need : Option PlainExpr → ℕ
option_need None = 0
option_need (Some e) = expr_need e

-- the greatest need of an expression of a statement, 0 where it has none
abbrev mutual
  pub stmt_need : PlainStmt → ℕ
  stmt_need (statement unit at kind) = kind_need kind

  pub kind_need : PlainKind → ℕ
  kind_need empty = 0
  kind_need (evaluate e) = expr_need e
  kind_need (block ss) = stmts_need ss
  kind_need (declare o es) = most (exprs_needs es)
  kind_need (branch c a b) = max (expr_need c) (max (stmt_need a) (option_stmt_need b))
  kind_need (while_loop c s) = max (expr_need c) (stmt_need s)
  kind_need (do_loop s c) = max (expr_need c) (stmt_need s)
  kind_need (for_loop i c n s) = max (option_stmt_need i) (max (option_need c) (max (option_need n) (stmt_need s)))
  kind_need break_loop = 0
  kind_need continue_loop = 0
  kind_need (return_value e) = option_need e

  pub option_stmt_need : OptionPlainStmt → ℕ
  option_stmt_need no_stmt = 0
  option_stmt_need (a_stmt s) = stmt_need s

  pub stmts_need : PlainStmts → ℕ
  stmts_need last_stmt = 0
  stmts_need (next_stmt s ss) = max (stmt_need s) (stmts_need ss)

-- ---- calls: the functions that a part calls, before those of what follows

abbrev mutual
  pub expr_calls : PlainExpr → List ℕ → List ℕ
  expr_calls (expression ty mode node) rest = node_calls node rest

  pub node_calls : PlainNode → List ℕ → List ℕ
  node_calls (number n) rest = rest
  node_calls null rest = rest
  node_calls (load p) rest = place_calls p rest
  node_calls (address_of p) rest = place_calls p rest
  node_calls (unary op e) rest = expr_calls e rest
  node_calls (binary op a b) rest = expr_calls a (expr_calls b rest)
  node_calls (convert e) rest = expr_calls e rest
  node_calls (assign p e) rest = place_calls p (expr_calls e rest)
  node_calls (compound op mode p e) rest = place_calls p (expr_calls e rest)
  node_calls (step up prefix p) rest = place_calls p rest
  node_calls (logical_not e) rest = expr_calls e rest
  node_calls (logical_and a b) rest = expr_calls a (expr_calls b rest)
  node_calls (logical_or a b) rest = expr_calls a (expr_calls b rest)
  node_calls (conditional c a b) rest = expr_calls c (expr_calls a (expr_calls b rest))
  node_calls (comma a b) rest = expr_calls a (expr_calls b rest)
  node_calls (call f args) rest = f ∷ exprs_calls args rest
  node_calls (io op port index value) rest = option_calls index (option_calls value rest)
  node_calls (group acquire g) rest = rest
  node_calls (bind d choice) rest = rest
  node_calls (dynamic_group acquire d) rest = rest

  pub place_calls : PlainPlace → List ℕ → List ℕ
  place_calls (object o) rest = rest
  place_calls (deref e) rest = expr_calls e rest
  place_calls (member p i) rest = place_calls p rest

  pub option_calls : OptionPlainExpr → List ℕ → List ℕ
  option_calls no_expr rest = rest
  option_calls (an_expr e) rest = expr_calls e rest

  pub exprs_calls : PlainExprs → List ℕ → List ℕ
  exprs_calls last_expr rest = rest
  exprs_calls (next_expr e es) rest = expr_calls e (exprs_calls es rest)

abbrev pub optional_calls : Option PlainExpr → List ℕ → List ℕ
optional_calls None rest = rest
optional_calls (Some e) rest = expr_calls e rest

abbrev mutual
  pub stmt_calls : PlainStmt → List ℕ → List ℕ
  stmt_calls (statement unit at kind) rest = kind_calls kind rest

  pub kind_calls : PlainKind → List ℕ → List ℕ
  kind_calls empty rest = rest
  kind_calls (evaluate e) rest = expr_calls e rest
  kind_calls (block ss) rest = stmts_calls ss rest
  kind_calls (declare o es) rest = exprs_calls es rest
  kind_calls (branch c a b) rest = expr_calls c (stmt_calls a (option_stmt_calls b rest))
  kind_calls (while_loop c s) rest = expr_calls c (stmt_calls s rest)
  kind_calls (do_loop s c) rest = stmt_calls s (expr_calls c rest)
  kind_calls (for_loop i c n s) rest = option_stmt_calls i (optional_calls c (optional_calls n (stmt_calls s rest)))
  kind_calls break_loop rest = rest
  kind_calls continue_loop rest = rest
  kind_calls (return_value e) rest = optional_calls e rest

  pub option_stmt_calls : OptionPlainStmt → List ℕ → List ℕ
  option_stmt_calls no_stmt rest = rest
  option_stmt_calls (a_stmt s) rest = stmt_calls s rest

  pub stmts_calls : PlainStmts → List ℕ → List ℕ
  stmts_calls last_stmt rest = rest
  stmts_calls (next_stmt s ss) rest = stmt_calls s (stmts_calls ss rest)

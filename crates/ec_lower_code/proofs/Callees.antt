-- Functions that a run calls: main reaches them, and they are others than main.
use Rattle.std.proofs.Common.{◌≡◌, ◌≢◌, ◌⊎◌, ℕ, suc, List, [], Option, Some, None, refl, subst, inl, inr, arith}
use Rattle.std.specs.Prelude.{⊤, Contains, slice_get}
use Rattle.ec_core.specs.Needs.{expr_calls, node_calls, place_calls, option_calls, exprs_calls, optional_calls, stmt_calls}
use Rattle.ec_core.specs.Needs.{kind_calls, option_stmt_calls, stmts_calls}
use Rattle.ec_core.specs.Plain.{PlainExpr, expression, PlainNode, number, null, load, address_of, unary, binary, convert}
use Rattle.ec_core.specs.Plain.{assign, compound, step, logical_not, logical_and, logical_or, conditional, comma, call, io}
use Rattle.ec_core.specs.Plain.{group, bind, dynamic_group, PlainPlace, object, deref, member, OptionPlainExpr}
use Rattle.ec_core.specs.Plain.{no_expr, an_expr, PlainExprs}
use Rattle.ec_core.specs.Plain.{last_expr, next_expr, PlainStmt, statement, PlainKind, empty, evaluate, block, declare, branch}
use Rattle.ec_core.specs.Plain.{while_loop, do_loop, for_loop, break_loop, continue_loop, return_value, OptionPlainStmt}
use Rattle.ec_core.specs.Plain.{no_stmt, a_stmt, PlainStmts, last_stmt, next_stmt, PlainFunction, PlainProgram}
use Rattle.ec_core.specs.Valid.{Reaches, calls, calls_through, Valid}
use Rattle.ec_iohw.specs.declared.table.IoTable.{IoTable}

-- a function that main reaches, and that is not main
abbrev pub IsOther : PlainProgram → ℕ → Type 0
IsOther program g = (g ≢ program.main) × Reaches program g program.main

-- a function that a run is in
abbrev pub IsRun : PlainProgram → ℕ → Type 0
IsRun program g = (g ≡ program.main) ⊎ Reaches program g program.main

-- ---- the functions that a part calls are such ones

module _ (C : ℕ → Type 0) where
  abbrev mutual
    pub CallsOfExpr : PlainExpr → Type 0
    CallsOfExpr (expression ty mode node) = CallsOfNode node

    pub CallsOfNode : PlainNode → Type 0
    CallsOfNode (number n) = ⊤
    CallsOfNode null = ⊤
    CallsOfNode (load p) = CallsOfPlace p
    CallsOfNode (address_of p) = CallsOfPlace p
    CallsOfNode (unary op a) = CallsOfExpr a
    CallsOfNode (binary op a b) = CallsOfExpr a × CallsOfExpr b
    CallsOfNode (convert a) = CallsOfExpr a
    CallsOfNode (assign p a) = CallsOfPlace p × CallsOfExpr a
    CallsOfNode (compound op own p a) = CallsOfPlace p × CallsOfExpr a
    CallsOfNode (step up prefix p) = CallsOfPlace p
    CallsOfNode (logical_not a) = CallsOfExpr a
    CallsOfNode (logical_and a b) = CallsOfExpr a × CallsOfExpr b
    CallsOfNode (logical_or a b) = CallsOfExpr a × CallsOfExpr b
    CallsOfNode (conditional c a b) = CallsOfExpr c × CallsOfExpr a × CallsOfExpr b
    CallsOfNode (comma a b) = CallsOfExpr a × CallsOfExpr b
    CallsOfNode (call f args) = C f × CallsOfExprs args
    CallsOfNode (io op port index value) = CallsOfOption index × CallsOfOption value
    CallsOfNode (group acquire g) = ⊤
    CallsOfNode (bind d choice) = ⊤
    CallsOfNode (dynamic_group acquire d) = ⊤

    pub CallsOfPlace : PlainPlace → Type 0
    CallsOfPlace (object o) = ⊤
    CallsOfPlace (deref e) = CallsOfExpr e
    CallsOfPlace (member p i) = CallsOfPlace p

    pub CallsOfOption : OptionPlainExpr → Type 0
    CallsOfOption no_expr = ⊤
    CallsOfOption (an_expr e) = CallsOfExpr e

    pub CallsOfExprs : PlainExprs → Type 0
    CallsOfExprs last_expr = ⊤
    CallsOfExprs (next_expr e es) = CallsOfExpr e × CallsOfExprs es

  abbrev pub CallsOfOptional : Option PlainExpr → Type 0
  CallsOfOptional None = ⊤
  CallsOfOptional (Some e) = CallsOfExpr e

  abbrev mutual
    pub CallsOfStmt : PlainStmt → Type 0
    CallsOfStmt (statement unit at kind) = CallsOfKind kind

    pub CallsOfKind : PlainKind → Type 0
    CallsOfKind empty = ⊤
    CallsOfKind (evaluate e) = CallsOfExpr e
    CallsOfKind (block ss) = CallsOfStmts ss
    CallsOfKind (declare o values) = CallsOfExprs values
    CallsOfKind (branch c a b) = CallsOfExpr c × CallsOfStmt a × CallsOfOptionStmt b
    CallsOfKind (while_loop c body) = CallsOfExpr c × CallsOfStmt body
    CallsOfKind (do_loop body c) = CallsOfStmt body × CallsOfExpr c
    CallsOfKind (for_loop first c last body) =
        CallsOfOptionStmt first × CallsOfOptional c × CallsOfOptional last × CallsOfStmt body
    CallsOfKind break_loop = ⊤
    CallsOfKind continue_loop = ⊤
    CallsOfKind (return_value e) = CallsOfOptional e

    pub CallsOfOptionStmt : OptionPlainStmt → Type 0
    CallsOfOptionStmt no_stmt = ⊤
    CallsOfOptionStmt (a_stmt a) = CallsOfStmt a

    pub CallsOfStmts : PlainStmts → Type 0
    CallsOfStmts last_stmt = ⊤
    CallsOfStmts (next_stmt a ss) = CallsOfStmt a × CallsOfStmts ss

-- where the functions in the list of its calls are

module _ (C : ℕ → Type 0) where
  abbrev AllOf : List ℕ → Type 0
  AllOf numbers = (k : ℕ) → Contains numbers k → C k

  mutual
    expr_suits : (e : PlainExpr) (rest : List ℕ) → AllOf (expr_calls e rest) → CallsOfExpr C e × AllOf rest
    expr_suits (expression ty mode node) rest h = node_suits node rest h

    node_suits : (node : PlainNode) (rest : List ℕ) → AllOf (node_calls node rest) → CallsOfNode C node × AllOf rest
    node_suits (number n) rest h = (tt, h)
    node_suits null rest h = (tt, h)
    node_suits (load q) rest h = place_suits q rest h
    node_suits (address_of q) rest h = place_suits q rest h
    node_suits (unary op a) rest h = expr_suits a rest h
    node_suits (binary op a b) rest h =
        let x = expr_suits a (expr_calls b rest) h in
        let y = expr_suits b rest x.1 in
        ((x.0, y.0), y.1)
    node_suits (convert a) rest h = expr_suits a rest h
    node_suits (assign q a) rest h =
        let x = place_suits q (expr_calls a rest) h in
        let y = expr_suits a rest x.1 in
        ((x.0, y.0), y.1)
    node_suits (compound op own q a) rest h =
        let x = place_suits q (expr_calls a rest) h in
        let y = expr_suits a rest x.1 in
        ((x.0, y.0), y.1)
    node_suits (step up prefix q) rest h = place_suits q rest h
    node_suits (logical_not a) rest h = expr_suits a rest h
    node_suits (logical_and a b) rest h =
        let x = expr_suits a (expr_calls b rest) h in
        let y = expr_suits b rest x.1 in
        ((x.0, y.0), y.1)
    node_suits (logical_or a b) rest h =
        let x = expr_suits a (expr_calls b rest) h in
        let y = expr_suits b rest x.1 in
        ((x.0, y.0), y.1)
    node_suits (conditional c a b) rest h =
        let x = expr_suits c (expr_calls a (expr_calls b rest)) h in
        let y = expr_suits a (expr_calls b rest) x.1 in
        let z = expr_suits b rest y.1 in
        ((x.0, y.0, z.0), z.1)
    node_suits (comma a b) rest h =
        let x = expr_suits a (expr_calls b rest) h in
        let y = expr_suits b rest x.1 in
        ((x.0, y.0), y.1)
    node_suits (call f args) rest h =
        let x = exprs_suit args rest (λ k c. h k (suc c.0, omega (arith, c.1), c.2)) in
        ((h f (0, omega arith, refl), x.0), x.1)
    node_suits (io op port index value) rest h =
        let x = operand_suits index (option_calls value rest) h in
        let y = operand_suits value rest x.1 in
        ((x.0, y.0), y.1)
    node_suits (group acquire g) rest h = (tt, h)
    node_suits (bind d choice) rest h = (tt, h)
    node_suits (dynamic_group acquire d) rest h = (tt, h)

    place_suits : (q : PlainPlace) (rest : List ℕ) → AllOf (place_calls q rest) → CallsOfPlace C q × AllOf rest
    place_suits (object o) rest h = (tt, h)
    place_suits (deref e) rest h = expr_suits e rest h
    place_suits (member q i) rest h = place_suits q rest h

    operand_suits : (e : OptionPlainExpr) (rest : List ℕ) → AllOf (option_calls e rest) → CallsOfOption C e × AllOf rest
    operand_suits no_expr rest h = (tt, h)
    operand_suits (an_expr e) rest h = expr_suits e rest h

    exprs_suit : (es : PlainExprs) (rest : List ℕ) → AllOf (exprs_calls es rest) → CallsOfExprs C es × AllOf rest
    exprs_suit last_expr rest h = (tt, h)
    exprs_suit (next_expr e es) rest h =
        let x = expr_suits e (exprs_calls es rest) h in
        let y = exprs_suit es rest x.1 in
        ((x.0, y.0), y.1)

  optional_suits : (e : Option PlainExpr) (rest : List ℕ) → AllOf (optional_calls e rest) → CallsOfOptional C e × AllOf rest
  optional_suits None rest h = (tt, h)
  optional_suits (Some e) rest h = expr_suits e rest h

  mutual
    stmt_suits : (a : PlainStmt) (rest : List ℕ) → AllOf (stmt_calls a rest) → CallsOfStmt C a × AllOf rest
    stmt_suits (statement unit at kind) rest h = kind_suits kind rest h

    kind_suits : (kind : PlainKind) (rest : List ℕ) → AllOf (kind_calls kind rest) → CallsOfKind C kind × AllOf rest
    kind_suits empty rest h = (tt, h)
    kind_suits (evaluate e) rest h = expr_suits e rest h
    kind_suits (block ss) rest h = stmts_suit ss rest h
    kind_suits (declare o es) rest h = exprs_suit es rest h
    kind_suits (branch c a b) rest h =
        let x = expr_suits c (stmt_calls a (option_stmt_calls b rest)) h in
        let y = stmt_suits a (option_stmt_calls b rest) x.1 in
        let z = option_stmt_suits b rest y.1 in
        ((x.0, y.0, z.0), z.1)
    kind_suits (while_loop c a) rest h =
        let x = expr_suits c (stmt_calls a rest) h in
        let y = stmt_suits a rest x.1 in
        ((x.0, y.0), y.1)
    kind_suits (do_loop a c) rest h =
        let x = stmt_suits a (expr_calls c rest) h in
        let y = expr_suits c rest x.1 in
        ((x.0, y.0), y.1)
    kind_suits (for_loop first c last a) rest h =
        let x = option_stmt_suits first (optional_calls c (optional_calls last (stmt_calls a rest))) h in
        let y = optional_suits c (optional_calls last (stmt_calls a rest)) x.1 in
        let z = optional_suits last (stmt_calls a rest) y.1 in
        let u = stmt_suits a rest z.1 in
        ((x.0, y.0, z.0, u.0), u.1)
    kind_suits break_loop rest h = (tt, h)
    kind_suits continue_loop rest h = (tt, h)
    kind_suits (return_value e) rest h = optional_suits e rest h

    option_stmt_suits : (a : OptionPlainStmt) (rest : List ℕ) → AllOf (option_stmt_calls a rest) → CallsOfOptionStmt C a × AllOf rest
    option_stmt_suits no_stmt rest h = (tt, h)
    option_stmt_suits (a_stmt a) rest h = stmt_suits a rest h

    stmts_suit : (ss : PlainStmts) (rest : List ℕ) → AllOf (stmts_calls ss rest) → CallsOfStmts C ss × AllOf rest
    stmts_suit last_stmt rest h = (tt, h)
    stmts_suit (next_stmt a ss) rest h =
        let x = stmt_suits a (stmts_calls ss rest) h in
        let y = stmts_suit ss rest x.1 in
        ((x.0, y.0), y.1)

-- what a function that main reaches calls is reached by main
reached_on : (program : PlainProgram) (h k : ℕ) (f : PlainFunction) → slice_get program.functions h ≡ Some f
    → Contains (stmt_calls f.body []) k → (g : ℕ) → Reaches program h g → Reaches program k g
reached_on program h k f is c g (calls _ f1 is1 c1) = calls_through g h f1 is1 c1 (calls h f is c)
reached_on program h k f is c g (calls_through _ j f1 is1 c1 r) = calls_through g j f1 is1 c1 (reached_on program h k f is c j r)

callee_reached : (program : PlainProgram) (h k : ℕ) (f : PlainFunction) → slice_get program.functions h ≡ Some f → IsRun program h
    → Contains (stmt_calls f.body []) k → Reaches program k program.main
callee_reached program h k f is (inl e) c = subst (Reaches program k) e (calls h f is c)
callee_reached program h k f is (inr r) c = reached_on program h k f is c program.main r

-- a function that a run is in calls others than main
pub run_parts : (program : PlainProgram) (table : IoTable) → Valid program table → (h : ℕ) (f : PlainFunction)
    → slice_get program.functions h ≡ Some f → IsRun program h → CallsOfStmt (IsOther program) f.body
run_parts program table valid h f is run =
    (stmt_suits (IsOther program) f.body [] (λ k c. other k (callee_reached program h k f is run c))).0
  where
    other : (k : ℕ) → Reaches program k program.main → IsOther program k
    other k r = (λ e. valid.no_recursion program.main (subst (λ (z : ℕ). Reaches program z program.main) e r), r)

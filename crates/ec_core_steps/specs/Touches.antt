-- What a part of a function does to an object: it applies `&` to the object, or to a part of it (ISO/IEC 9899:1999,
-- 6.5.3.2), or changes it, by an assignment, a step or its declaration (6.5.16, 6.5.2.4, 6.5.3.1, 6.7).
use Rattle.std.specs.Prelude.{ℕ, ◌==◌, Bool, true, false, ◌&&◌, ◌||◌, Option, Some, None}
use Rattle.ec_core.specs.Plain.{PlainExpr, expression, PlainNode, number, null, load, address_of, unary, binary}
use Rattle.ec_core.specs.Plain.{convert, assign, compound, step, logical_not, logical_and, logical_or, conditional}
use Rattle.ec_core.specs.Plain.{comma, call, io, group, bind, dynamic_group, PlainPlace, object, deref, member}
use Rattle.ec_core.specs.Plain.{OptionPlainExpr, no_expr, an_expr, PlainExprs, last_expr, next_expr, PlainStmt}
use Rattle.ec_core.specs.Plain.{statement, PlainKind, empty, evaluate, block, declare, branch, while_loop, do_loop}
use Rattle.ec_core.specs.Plain.{for_loop, break_loop, continue_loop, return_value, OptionPlainStmt, no_stmt, a_stmt}
use Rattle.ec_core.specs.Plain.{PlainStmts, last_stmt, next_stmt}
use Rattle.ec_core_steps.specs.declared.touches.Touch.{Touch}
use Rattle.ec_core_steps.specs.declared.touches.Touch.TheVariants.{Address, Change}

abbrev pub is_address : Touch → Bool
is_address Address = true
is_address Change = false

abbrev pub is_change : Touch → Bool
is_change Address = false
is_change Change = true

-- the object or a part of it is this place, by its name
abbrev pub lies_in : ℕ → PlainPlace → Bool
lies_in o (object q) = q == o
lies_in o (deref e) = false
lies_in o (member q i) = lies_in o q

-- whether a part touches the object o so
module _ (t : Touch) (o : ℕ) where
  abbrev mutual
    pub touches : PlainExpr → Bool
    touches (expression ty mode node) = node_touches node

    pub node_touches : PlainNode → Bool
    node_touches (number n) = false
    node_touches null = false
    node_touches (load p) = place_touches p
    node_touches (address_of p) = (is_address t && lies_in o p) || place_touches p
    node_touches (unary op a) = touches a
    node_touches (binary op a b) = touches a || touches b
    node_touches (convert a) = touches a
    node_touches (assign p a) = (is_change t && lies_in o p) || (place_touches p || touches a)
    node_touches (compound op mode p a) = (is_change t && lies_in o p) || (place_touches p || touches a)
    node_touches (step up prefix p) = (is_change t && lies_in o p) || place_touches p
    node_touches (logical_not a) = touches a
    node_touches (logical_and a b) = touches a || touches b
    node_touches (logical_or a b) = touches a || touches b
    node_touches (conditional c a b) = touches c || (touches a || touches b)
    node_touches (comma a b) = touches a || touches b
    node_touches (call f args) = exprs_touch args
    node_touches (io op port index value) = option_touches index || option_touches value
    node_touches (group acquire g) = false
    node_touches (bind d choice) = false
    node_touches (dynamic_group acquire d) = false

    pub place_touches : PlainPlace → Bool
    place_touches (object q) = false
    place_touches (deref e) = touches e
    place_touches (member q i) = place_touches q

    pub option_touches : OptionPlainExpr → Bool
    option_touches no_expr = false
    option_touches (an_expr e) = touches e

    pub exprs_touch : PlainExprs → Bool
    exprs_touch last_expr = false
    exprs_touch (next_expr e es) = touches e || exprs_touch es

  abbrev pub optional_touches : Option PlainExpr → Bool
  optional_touches None = false
  optional_touches (Some e) = touches e

  abbrev mutual
    pub stmt_touches : PlainStmt → Bool
    stmt_touches (statement unit at kind) = kind_touches kind

    pub kind_touches : PlainKind → Bool
    kind_touches empty = false
    kind_touches (evaluate e) = touches e
    kind_touches (block ss) = stmts_touch ss
    kind_touches (declare q values) = (is_change t && q == o) || exprs_touch values
    kind_touches (branch c a b) = touches c || (stmt_touches a || option_stmt_touches b)
    kind_touches (while_loop c s) = touches c || stmt_touches s
    kind_touches (do_loop s c) = stmt_touches s || touches c
    kind_touches (for_loop first c last s) =
        option_stmt_touches first || (optional_touches c || (optional_touches last || stmt_touches s))
    kind_touches break_loop = false
    kind_touches continue_loop = false
    kind_touches (return_value e) = optional_touches e

    pub option_stmt_touches : OptionPlainStmt → Bool
    option_stmt_touches no_stmt = false
    option_stmt_touches (a_stmt s) = stmt_touches s

    pub stmts_touch : PlainStmts → Bool
    stmts_touch last_stmt = false
    stmts_touch (next_stmt s ss) = stmt_touches s || stmts_touch ss

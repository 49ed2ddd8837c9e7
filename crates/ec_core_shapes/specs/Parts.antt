-- The parts of a program, one after another: those that count by their shapes, and all others, each with its words.
use Rattle.std.specs.Prelude.{ℕ, List, [], ◌∷◌, Option, Some, None}
use Rattle.ec_fx.specs.declared.numbers.Mode.{Mode}
use Rattle.ec_core.specs.Plain.{PlainType, PlainExpr, expression, PlainNode, number, null, load, address_of, unary}
use Rattle.ec_core.specs.Plain.{binary, convert, assign, compound, step, logical_not, logical_and, logical_or}
use Rattle.ec_core.specs.Plain.{conditional, comma, call, io, group, bind, dynamic_group, PlainPlace, object, deref}
use Rattle.ec_core.specs.Plain.{member, OptionPlainExpr, no_expr, an_expr, PlainExprs, last_expr, next_expr, PlainStmt}
use Rattle.ec_core.specs.Plain.{statement, PlainKind, empty, evaluate, block, declare, branch, while_loop, do_loop}
use Rattle.ec_core.specs.Plain.{for_loop, break_loop, continue_loop, return_value, OptionPlainStmt, no_stmt, a_stmt}
use Rattle.ec_core.specs.Plain.{PlainStmts, last_stmt, next_stmt, PlainFunction}
use Rattle.ec_core.specs.PortTable.{PlainTable}
use Rattle.ec_core.specs.Typing.{type_of_expr}
use Rattle.ec_core.specs.Words.{widest, pointer_types, function_words, member_words, branch_words, loop_words}
use Rattle.ec_core.specs.Words.{jump_words, node_words, return_of, leaf_words}
use Rattle.ec_core_shapes.specs.Shapes.{Shape, unary_shape, binary_shape, conversion_shape, compound_shape, step_shape}

pub data Part : Type 0 where
  alone : (words : ℕ) → Part
  shaped : Shape → Part

module _ (table : PlainTable) where
  -- ---- expressions and places

  abbrev pub node_part : PlainType → Mode → PlainNode → Part
  node_part ty mode (unary op e) = shaped (unary_shape op ty mode (type_of_expr e))
  node_part ty mode (binary op a b) = shaped (binary_shape op ty mode (type_of_expr a) (type_of_expr b))
  node_part ty mode (convert e) = shaped (conversion_shape ty mode (type_of_expr e))
  node_part ty mode (compound op own p e) =
      shaped (compound_shape op own mode ty (type_of_expr e) (widest (ty ∷ pointer_types p (type_of_expr e ∷ []))))
  node_part ty mode (step up prefix p) = shaped (step_shape up mode ty (widest (ty ∷ pointer_types p [])))
  node_part ty mode node = alone (node_words table ty node)

  -- a part, then those in it, before others
  abbrev mutual
    pub expr_parts : PlainExpr → List Part → List Part
    expr_parts (expression ty mode node) rest = node_part ty mode node ∷ inner_parts node rest

    pub inner_parts : PlainNode → List Part → List Part
    inner_parts (number n) rest = rest
    inner_parts null rest = rest
    inner_parts (load p) rest = place_parts p rest
    inner_parts (address_of p) rest = place_parts p rest
    inner_parts (unary op a) rest = expr_parts a rest
    inner_parts (binary op a b) rest = expr_parts a (expr_parts b rest)
    inner_parts (convert a) rest = expr_parts a rest
    inner_parts (assign p a) rest = place_parts p (expr_parts a rest)
    inner_parts (compound op own p a) rest = place_parts p (expr_parts a rest)
    inner_parts (step up prefix p) rest = place_parts p rest
    inner_parts (logical_not a) rest = expr_parts a rest
    inner_parts (logical_and a b) rest = expr_parts a (expr_parts b rest)
    inner_parts (logical_or a b) rest = expr_parts a (expr_parts b rest)
    inner_parts (conditional c a b) rest = expr_parts c (expr_parts a (expr_parts b rest))
    inner_parts (comma a b) rest = expr_parts a (expr_parts b rest)
    inner_parts (call f args) rest = exprs_parts args rest
    inner_parts (io op port index value) rest = option_parts index (option_parts value rest)
    inner_parts (group acquire g) rest = rest
    inner_parts (bind d choice) rest = rest
    inner_parts (dynamic_group acquire d) rest = rest

    pub place_parts : PlainPlace → List Part → List Part
    place_parts (object o) rest = rest
    place_parts (deref e) rest = expr_parts e rest
    place_parts (member p i) rest = alone member_words ∷ place_parts p rest

    pub option_parts : OptionPlainExpr → List Part → List Part
    option_parts no_expr rest = rest
    option_parts (an_expr e) rest = expr_parts e rest

    pub exprs_parts : PlainExprs → List Part → List Part
    exprs_parts last_expr rest = rest
    exprs_parts (next_expr e es) rest = expr_parts e (exprs_parts es rest)

  abbrev pub optional_parts : Option PlainExpr → List Part → List Part
  optional_parts None rest = rest
  optional_parts (Some e) rest = expr_parts e rest

  -- the leaves of a declared object with their expressions
  abbrev pub leaves_parts : PlainExprs → List Part → List Part
  leaves_parts last_expr rest = rest
  leaves_parts (next_expr e es) rest = alone (leaf_words e) ∷ expr_parts e (leaves_parts es rest)

  -- ---- statements

  abbrev mutual
    pub stmt_parts : PlainStmt → List Part → List Part
    stmt_parts (statement unit at kind) rest = kind_parts kind rest

    pub kind_parts : PlainKind → List Part → List Part
    kind_parts empty rest = rest
    kind_parts (evaluate e) rest = expr_parts e rest
    kind_parts (block ss) rest = stmts_parts ss rest
    kind_parts (declare o values) rest = leaves_parts values rest
    kind_parts (branch c a b) rest = alone branch_words ∷ expr_parts c (stmt_parts a (option_stmt_parts b rest))
    kind_parts (while_loop c body) rest = alone loop_words ∷ expr_parts c (stmt_parts body rest)
    kind_parts (do_loop body c) rest = alone loop_words ∷ stmt_parts body (expr_parts c rest)
    kind_parts (for_loop first c last body) rest =
        alone loop_words
        ∷ option_stmt_parts first (optional_parts c (optional_parts last (stmt_parts body rest)))
    kind_parts break_loop rest = alone jump_words ∷ rest
    kind_parts continue_loop rest = alone jump_words ∷ rest
    kind_parts (return_value e) rest = alone (return_of e) ∷ optional_parts e rest

    pub option_stmt_parts : OptionPlainStmt → List Part → List Part
    option_stmt_parts no_stmt rest = rest
    option_stmt_parts (a_stmt a) rest = stmt_parts a rest

    pub stmts_parts : PlainStmts → List Part → List Part
    stmts_parts last_stmt rest = rest
    stmts_parts (next_stmt a ss) rest = stmt_parts a (stmts_parts ss rest)

  -- ---- functions

  abbrev pub function_parts : PlainFunction → List Part → List Part
  function_parts f rest = alone function_words ∷ stmt_parts f.body rest

  abbrev pub functions_parts : List PlainFunction → List Part
  functions_parts [] = []
  functions_parts (f ∷ fs) = function_parts f (functions_parts fs)

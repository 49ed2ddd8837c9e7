-- The weight of a program in words (our own profile): the sum of the words of its parts, each as often as it stands
-- there. Twice the weight bounds the bytes of its code.
use Rattle.std.specs.Prelude.{ℕ, ◌+◌, ◌*◌, List, [], ◌∷◌, Option, Some, None}
use Rattle.ec_space.specs.declared.space.Home.{Home}
use Rattle.ec_space.specs.declared.space.Home.TheVariants.{Data, Flash, Far}
use Rattle.ec_core.specs.Plain.{PlainExpr, expression, PlainNode, number, null, load, address_of, unary, binary}
use Rattle.ec_core.specs.Plain.{convert, assign, compound, step, logical_not, logical_and, logical_or, conditional}
use Rattle.ec_core.specs.Plain.{comma, call, io, group, bind, dynamic_group, PlainPlace, object, deref, member, OptionPlainExpr, no_expr}
use Rattle.ec_core.specs.Plain.{an_expr, PlainExprs, last_expr, next_expr, PlainStmt, statement, PlainKind, empty}
use Rattle.ec_core.specs.Plain.{evaluate, block, declare, branch, while_loop, do_loop, for_loop, break_loop}
use Rattle.ec_core.specs.Plain.{continue_loop, return_value, OptionPlainStmt, no_stmt, a_stmt, PlainStmts, last_stmt}
use Rattle.ec_core.specs.Plain.{next_stmt, PlainStorage, static, local, param, register, PlainObject, PlainFunction}
use Rattle.ec_core.specs.Plain.{PlainProgram}
use Rattle.ec_core.specs.PortTable.{PlainTable}
use Rattle.ec_core.specs.Words.{program_words, function_words, member_words, branch_words, loop_words, jump_words}
use Rattle.ec_core.specs.Words.{node_words, return_of, leaf_words}

module _ (table : PlainTable) where
  -- ---- expressions and places

  abbrev mutual
    pub expr_weight : PlainExpr → ℕ
    expr_weight (expression ty mode node) = node_words table ty node + parts_weight node

    -- the expressions and places in a node
    pub parts_weight : PlainNode → ℕ
    parts_weight (number n) = 0
    parts_weight null = 0
    parts_weight (load p) = place_weight p
    parts_weight (address_of p) = place_weight p
    parts_weight (unary op a) = expr_weight a
    parts_weight (binary op a b) = expr_weight a + expr_weight b
    parts_weight (convert a) = expr_weight a
    parts_weight (assign p a) = place_weight p + expr_weight a
    parts_weight (compound op operation_mode p a) = place_weight p + expr_weight a
    parts_weight (step up prefix p) = place_weight p
    parts_weight (logical_not a) = expr_weight a
    parts_weight (logical_and a b) = expr_weight a + expr_weight b
    parts_weight (logical_or a b) = expr_weight a + expr_weight b
    parts_weight (conditional c a b) = expr_weight c + expr_weight a + expr_weight b
    parts_weight (comma a b) = expr_weight a + expr_weight b
    parts_weight (call f args) = exprs_weight args
    parts_weight (io op port index value) = option_weight index + option_weight value
    parts_weight (group acquire g) = 0
    parts_weight (bind d choice) = 0
    parts_weight (dynamic_group acquire d) = 0

    pub place_weight : PlainPlace → ℕ
    place_weight (object o) = 0
    place_weight (deref e) = expr_weight e
    place_weight (member p i) = member_words + place_weight p

    pub option_weight : OptionPlainExpr → ℕ
    option_weight no_expr = 0
    option_weight (an_expr e) = expr_weight e

    pub exprs_weight : PlainExprs → ℕ
    exprs_weight last_expr = 0
    exprs_weight (next_expr e es) = expr_weight e + exprs_weight es

  abbrev pub optional_weight : Option PlainExpr → ℕ
  optional_weight None = 0
  optional_weight (Some e) = expr_weight e

  -- the leaves of a declared object with their expressions
  abbrev pub leaves_weight : PlainExprs → ℕ
  leaves_weight last_expr = 0
  leaves_weight (next_expr e es) = leaf_words e + expr_weight e + leaves_weight es

  -- ---- statements

  abbrev mutual
    pub stmt_weight : PlainStmt → ℕ
    stmt_weight (statement unit at kind) = kind_weight kind

    pub kind_weight : PlainKind → ℕ
    kind_weight empty = 0
    kind_weight (evaluate e) = expr_weight e
    kind_weight (block ss) = stmts_weight ss
    kind_weight (declare o values) = leaves_weight values
    kind_weight (branch c a b) = branch_words + expr_weight c + stmt_weight a + option_stmt_weight b
    kind_weight (while_loop c body) = loop_words + expr_weight c + stmt_weight body
    kind_weight (do_loop body c) = loop_words + stmt_weight body + expr_weight c
    kind_weight (for_loop first c last body) =
        loop_words + option_stmt_weight first + optional_weight c + optional_weight last + stmt_weight body
    kind_weight break_loop = jump_words
    kind_weight continue_loop = jump_words
    kind_weight (return_value e) = return_of e + optional_weight e

    pub option_stmt_weight : OptionPlainStmt → ℕ
    option_stmt_weight no_stmt = 0
    option_stmt_weight (a_stmt a) = stmt_weight a

    pub stmts_weight : PlainStmts → ℕ
    stmts_weight last_stmt = 0
    stmts_weight (next_stmt a ss) = stmt_weight a + stmts_weight ss

  -- ---- functions and programs

  abbrev pub function_weight : PlainFunction → ℕ
  function_weight f = function_words + stmt_weight f.body

  abbrev pub functions_weight : List PlainFunction → ℕ
  functions_weight [] = 0
  functions_weight (f ∷ fs) = function_weight f + functions_weight fs

-- a static object of the home data, whose initial values are written when the program starts
abbrev pub object_words : ℕ
object_words = 20

abbrev pub object_weight : PlainStorage → Home → ℕ
object_weight (static inits) Data = object_words
object_weight (static inits) Flash = 0
object_weight (static inits) Far = 0
object_weight (local f) home = 0
object_weight (param f) home = 0
object_weight (register r) home = 0

abbrev pub objects_weight : List PlainObject → ℕ
objects_weight [] = 0
objects_weight (o ∷ os) = object_weight o.storage o.home + objects_weight os

abbrev pub weight : PlainProgram → PlainTable → ℕ
weight program table = program_words + objects_weight program.objects + functions_weight table program.functions

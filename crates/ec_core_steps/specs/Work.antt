-- The most work that a run of a program does, in words, where all its loops are counted (our own profile). The work of
-- the parts is that of a run; of two ways to go on the greater counts.
use Rattle.std.specs.Prelude.{ℕ, zero, suc, ◌+◌, ◌*◌, max, Option, Some, None, unwrap_or, length, slice_get}
use Rattle.ec_core.specs.Plain.{PlainExpr, expression, PlainNode, number, null, load, address_of, unary, binary}
use Rattle.ec_core.specs.Plain.{convert, assign, compound, step, logical_not, logical_and, logical_or, conditional}
use Rattle.ec_core.specs.Plain.{comma, call, io, group, bind, dynamic_group, PlainPlace, object, deref, member}
use Rattle.ec_core.specs.Plain.{OptionPlainExpr, no_expr, an_expr, PlainExprs, last_expr, next_expr, PlainStmt}
use Rattle.ec_core.specs.Plain.{statement, PlainKind, empty, evaluate, block, declare, branch, while_loop, do_loop}
use Rattle.ec_core.specs.Plain.{for_loop, break_loop, continue_loop, return_value, OptionPlainStmt, no_stmt, a_stmt}
use Rattle.ec_core.specs.Plain.{PlainStmts, last_stmt, next_stmt, PlainFunction, PlainProgram}
use Rattle.ec_core.specs.PortTable.{PlainTable}
use Rattle.ec_core.specs.Words.{program_words, function_words, member_words, branch_words, loop_words, jump_words}
use Rattle.ec_core.specs.Words.{node_words, return_of, leaf_words}
use Rattle.ec_core_steps.specs.Counted.{turns_of}

-- where a call of a function with a number is so much work
module _ (table : PlainTable) (call_most : ℕ → ℕ) where
  abbrev mutual
    pub expr_most : PlainExpr → ℕ
    expr_most (expression ty mode node) = node_words table ty node + node_most node

    -- the expressions and places in a node
    pub node_most : PlainNode → ℕ
    node_most (number n) = 0
    node_most null = 0
    node_most (load p) = place_most p
    node_most (address_of p) = place_most p
    node_most (unary op a) = expr_most a
    node_most (binary op a b) = expr_most a + expr_most b
    node_most (convert a) = expr_most a
    node_most (assign p a) = place_most p + expr_most a
    node_most (compound op operation_mode p a) = place_most p + expr_most a
    node_most (step up prefix p) = place_most p
    node_most (logical_not a) = expr_most a
    node_most (logical_and a b) = expr_most a + expr_most b
    node_most (logical_or a b) = expr_most a + expr_most b
    node_most (conditional c a b) = expr_most c + max (expr_most a) (expr_most b)
    node_most (comma a b) = expr_most a + expr_most b
    node_most (call f args) = exprs_most args + call_most f
    node_most (io op port index value) = option_most index + option_most value
    node_most (group acquire g) = 0
    node_most (bind d choice) = 0
    node_most (dynamic_group acquire d) = 0

    pub place_most : PlainPlace → ℕ
    place_most (object o) = 0
    place_most (deref e) = expr_most e
    place_most (member p i) = member_words + place_most p

    pub option_most : OptionPlainExpr → ℕ
    option_most no_expr = 0
    option_most (an_expr e) = expr_most e

    pub exprs_most : PlainExprs → ℕ
    exprs_most last_expr = 0
    exprs_most (next_expr e es) = expr_most e + exprs_most es

  abbrev pub optional_most : Option PlainExpr → ℕ
  optional_most None = 0
  optional_most (Some e) = expr_most e

  -- the leaves of a declared object with their expressions
  abbrev pub leaves_most : PlainExprs → ℕ
  leaves_most last_expr = 0
  leaves_most (next_expr e es) = leaf_words e + expr_most e + leaves_most es

  -- a loop of so many turns: its first part, a test before each turn and one that ends it, and the turns
  abbrev pub loop_most : (turns first c last body : ℕ) → ℕ
  loop_most turns first c last body = first + ((turns + 1) * (c + loop_words) + turns * (body + last))

  -- statements of the function f with the body `whole`; a loop that is not counted is as one without turns
  module _ (p : PlainProgram) (f : ℕ) (whole : PlainStmt) where
    abbrev mutual
      pub stmt_most : PlainStmt → ℕ
      stmt_most (statement unit at kind) = kind_most kind

      pub kind_most : PlainKind → ℕ
      kind_most empty = 0
      kind_most (evaluate e) = expr_most e
      kind_most (block ss) = stmts_most ss
      kind_most (declare o values) = leaves_most values
      kind_most (branch c a b) = branch_words + expr_most c + max (stmt_most a) (option_stmt_most b)
      kind_most (while_loop c body) = loop_most 0 0 (expr_most c) 0 (stmt_most body)
      kind_most (do_loop body c) = loop_most 0 0 (expr_most c) 0 (stmt_most body)
      kind_most (for_loop first c last body) =
          loop_most (unwrap_or (turns_of p f whole first c last body) 0) (option_stmt_most first) (optional_most c)
          (optional_most last) (stmt_most body)
      kind_most break_loop = jump_words
      kind_most continue_loop = jump_words
      kind_most (return_value e) = return_of e + optional_most e

      pub option_stmt_most : OptionPlainStmt → ℕ
      option_stmt_most no_stmt = 0
      option_stmt_most (a_stmt a) = stmt_most a

      pub stmts_most : PlainStmts → ℕ
      stmts_most last_stmt = 0
      stmts_most (next_stmt a ss) = stmt_most a + stmts_most ss

-- ---- functions and programs

-- a call of the function with a number, where calls in it are so much work
abbrev pub call_most : PlainProgram → PlainTable → (ℕ → ℕ) → ℕ → Option PlainFunction → ℕ
call_most p table inner f None = 0
call_most p table inner f (Some g) = function_words + stmt_most table inner p f g.body g.body

-- calls that nest at most so deep; a program without recursion nests no deeper than it has functions
abbrev pub function_most : PlainProgram → PlainTable → (depth f : ℕ) → ℕ
function_most p table zero f = 0
function_most p table (suc depth) f = call_most p table (function_most p table depth) f (slice_get p.functions f)

-- 64 times the words of a run
abbrev pub max_work : PlainProgram → PlainTable → ℕ
max_work p table = 64 * (program_words + function_most p table (length p.functions) p.main)

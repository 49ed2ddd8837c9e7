-- The most work of parts by numbers of 64 bits: a number of words that is greater than all of these is the greatest.
use Rattle.std.specs.Prelude.{ℕ, zero, suc, ◌+◌, ◌-◌, ◌*◌, ◌^◌, min, max}
use Rattle.std.specs.Prelude.{nat_le, if◌then◌else◌, List, [], ◌∷◌, Option, Some, None, unwrap_or}
use Rattle.std.specs.Prelude.{slice_index_or}
use Rattle.ec_core.specs.Layout.{scalar_size}
use Rattle.ec_core.specs.Plain.{PlainExpr, expression, PlainNode, number, null, load, address_of, unary, binary}
use Rattle.ec_core.specs.Plain.{convert, assign, compound, step, logical_not, logical_and, logical_or, conditional}
use Rattle.ec_core.specs.Plain.{comma, call, io, group, bind, dynamic_group, PlainPlace, object, deref, member}
use Rattle.ec_core.specs.Plain.{OptionPlainExpr, no_expr, an_expr, PlainExprs, last_expr, next_expr, PlainStmt}
use Rattle.ec_core.specs.Plain.{statement, PlainKind, empty, evaluate, block, declare, branch, while_loop, do_loop}
use Rattle.ec_core.specs.Plain.{for_loop, break_loop, continue_loop, return_value, OptionPlainStmt, no_stmt, a_stmt}
use Rattle.ec_core.specs.Plain.{PlainStmts, last_stmt, next_stmt, PlainFunction, PlainProgram}
use Rattle.ec_core.specs.PortTable.{PlainTable}
use Rattle.ec_core.specs.Typing.{type_of_expr}
use Rattle.ec_core.specs.Words.{function_words, member_words, branch_words, loop_words, jump_words}
use Rattle.ec_core.specs.Words.{node_words, return_of, leaf_words}
use Rattle.ec_core_steps.specs.Counted.{turns_of}

-- the greatest number of bytes of the pointers in a place, and at least n
abbrev pub widest_from : PlainPlace → ℕ → ℕ
widest_from (object o) n = n
widest_from (deref e) n = max (scalar_size (type_of_expr e)) n
widest_from (member p i) n = widest_from p n

-- ---- numbers of 64 bits

abbrev pub capped : ℕ → ℕ
capped n = min n (2 ^ 64 - 1)

abbrev pub sum_of : ℕ → ℕ → ℕ
sum_of a b = capped (a + b)

-- a number, where it is one of them
abbrev pub held : ℕ → Option ℕ
held n = if nat_le n (2 ^ 64 - 1) then Some n else None

abbrev pub times : ℕ → ℕ → ℕ
times n a = capped (n * a)

-- ---- parts of a function

-- where a call of the function with a number is so much work; nothing where there is no such function
abbrev pub call_cost : List ℕ → ℕ → ℕ
call_cost costs f = slice_index_or costs f 0

-- a loop of so many turns
abbrev pub loop_cost : (turns first c last body : ℕ) → ℕ
loop_cost turns first c last body =
    sum_of first (sum_of (times (turns + 1) (sum_of c loop_words)) (times turns (sum_of body last)))

module _ (table : PlainTable) (costs : List ℕ) where
  abbrev mutual
    pub expr_cost : PlainExpr → ℕ
    expr_cost (expression ty mode node) = sum_of (capped (node_words table ty node)) (node_cost node)

    pub node_cost : PlainNode → ℕ
    node_cost (number n) = 0
    node_cost null = 0
    node_cost (load p) = place_cost p
    node_cost (address_of p) = place_cost p
    node_cost (unary op a) = expr_cost a
    node_cost (binary op a b) = sum_of (expr_cost a) (expr_cost b)
    node_cost (convert a) = expr_cost a
    node_cost (assign p a) = sum_of (place_cost p) (expr_cost a)
    node_cost (compound op operation_mode p a) = sum_of (place_cost p) (expr_cost a)
    node_cost (step up prefix p) = place_cost p
    node_cost (logical_not a) = expr_cost a
    node_cost (logical_and a b) = sum_of (expr_cost a) (expr_cost b)
    node_cost (logical_or a b) = sum_of (expr_cost a) (expr_cost b)
    node_cost (conditional c a b) = sum_of (expr_cost c) (max (expr_cost a) (expr_cost b))
    node_cost (comma a b) = sum_of (expr_cost a) (expr_cost b)
    node_cost (call f args) = sum_of (exprs_cost args) (call_cost costs f)
    node_cost (io op port index value) = sum_of (option_cost index) (option_cost value)
    node_cost (group acquire g) = 0
    node_cost (bind d choice) = 0
    node_cost (dynamic_group acquire d) = 0

    pub place_cost : PlainPlace → ℕ
    place_cost (object o) = 0
    place_cost (deref e) = expr_cost e
    place_cost (member p i) = sum_of member_words (place_cost p)

    pub option_cost : OptionPlainExpr → ℕ
    option_cost no_expr = 0
    option_cost (an_expr e) = expr_cost e

    pub exprs_cost : PlainExprs → ℕ
    exprs_cost last_expr = 0
    exprs_cost (next_expr e es) = sum_of (expr_cost e) (exprs_cost es)

  abbrev pub optional_cost : Option PlainExpr → ℕ
  optional_cost None = 0
  optional_cost (Some e) = expr_cost e

  abbrev pub leaf_cost : PlainExpr → ℕ
  leaf_cost e = sum_of (capped (leaf_words e)) (expr_cost e)

  abbrev pub leaves_cost : PlainExprs → ℕ
  leaves_cost last_expr = 0
  leaves_cost (next_expr e es) = sum_of (leaf_cost e) (leaves_cost es)

  -- statements of the function f with the body `whole`
  module _ (p : PlainProgram) (f : ℕ) (whole : PlainStmt) where
    abbrev mutual
      pub stmt_cost : PlainStmt → ℕ
      stmt_cost (statement unit at kind) = kind_cost kind

      pub kind_cost : PlainKind → ℕ
      kind_cost empty = 0
      kind_cost (evaluate e) = expr_cost e
      kind_cost (block ss) = stmts_cost ss
      kind_cost (declare o values) = leaves_cost values
      kind_cost (branch c a b) = sum_of (sum_of branch_words (expr_cost c)) (max (stmt_cost a) (option_stmt_cost b))
      kind_cost (while_loop c body) = loop_cost 0 0 (expr_cost c) 0 (stmt_cost body)
      kind_cost (do_loop body c) = loop_cost 0 0 (expr_cost c) 0 (stmt_cost body)
      kind_cost (for_loop first c last body) =
          loop_cost (unwrap_or (turns_of p f whole first c last body) 0) (option_stmt_cost first) (optional_cost c)
          (optional_cost last) (stmt_cost body)
      kind_cost break_loop = jump_words
      kind_cost continue_loop = jump_words
      kind_cost (return_value e) = sum_of (capped (return_of e)) (optional_cost e)

      pub option_stmt_cost : OptionPlainStmt → ℕ
      option_stmt_cost no_stmt = 0
      option_stmt_cost (a_stmt a) = stmt_cost a

      pub stmts_cost : PlainStmts → ℕ
      stmts_cost last_stmt = 0
      stmts_cost (next_stmt a ss) = sum_of (stmt_cost a) (stmts_cost ss)

-- ---- all functions

-- a call of the function f
abbrev pub function_cost : PlainTable → List ℕ → PlainProgram → ℕ → PlainStmt → ℕ
function_cost table costs p f whole = sum_of function_words (stmt_cost table costs p f whole whole)

-- calls of some functions, the first with the number f
abbrev pub costs_from : PlainTable → List ℕ → PlainProgram → ℕ → List PlainFunction → List ℕ
costs_from table costs p f [] = []
costs_from table costs p f (g ∷ gs) = function_cost table costs p f g.body ∷ costs_from table costs p (f + 1) gs

-- calls of all functions that nest at most so deep
abbrev pub costs_within : PlainTable → PlainProgram → (depth : ℕ) → List ℕ
costs_within table p zero = []
costs_within table p (suc depth) = costs_from table (costs_within table p depth) p 0 p.functions

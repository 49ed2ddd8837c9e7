-- The costs of parts are their most work, where 64 bits hold it.
use Rattle.std.proofs.Common.{◌≡◌, ◌≤◌, ◌<◌, ◌+◌, ◌-◌, ◌*◌, ◌^◌, ℕ, zero, suc, List, [], ◌∷◌, Option, Some, None, refl, sym, ◌∙◌, ap, arith, inl, inr}
use Rattle.std.specs.Prelude.{max, nat_le, false, unwrap_or, slice_get}
use Rattle.std.proofs.lemmas.Bool.{cases_lt}
use Rattle.ec_core.specs.Plain.{PlainExpr, expression, PlainNode, number, null, load, address_of, unary, binary, convert, assign, compound}
use Rattle.ec_core.specs.Plain.{step, logical_not, logical_and, logical_or, conditional, comma, call, io, group, bind, dynamic_group}
use Rattle.ec_core.specs.Plain.{PlainPlace, object, deref, member, OptionPlainExpr, no_expr, an_expr, PlainExprs, last_expr, next_expr}
use Rattle.ec_core.specs.Plain.{PlainStmt, statement, PlainKind, empty, evaluate, block, declare, branch, while_loop, do_loop, for_loop}
use Rattle.ec_core.specs.Plain.{break_loop, continue_loop, return_value, OptionPlainStmt, no_stmt, a_stmt, PlainStmts, last_stmt, next_stmt}
use Rattle.ec_core.specs.Plain.{PlainFunction, PlainProgram}
use Rattle.ec_core.specs.PortTable.{PlainTable}
use Rattle.ec_core.specs.Words.{function_words, member_words, branch_words, loop_words, node_words, return_of, leaf_words}
use Rattle.ec_core_steps.specs.Counted.{turns_of}
use Rattle.ec_core_steps.specs.Costs.{capped, sum_of, times, call_cost, expr_cost, node_cost, place_cost, option_cost}
use Rattle.ec_core_steps.specs.Costs.{exprs_cost, optional_cost, leaves_cost, loop_cost, stmt_cost, kind_cost}
use Rattle.ec_core_steps.specs.Costs.{option_stmt_cost, stmts_cost, costs_from, costs_within, held}
use Rattle.ec_core_steps.specs.Work.{expr_most, node_most, place_most, option_most, exprs_most, optional_most, leaves_most}
use Rattle.ec_core_steps.specs.Work.{loop_most, stmt_most, kind_most, option_stmt_most, stmts_most, call_most, function_most}

-- ---- numbers

sum_is : (a b x y : ℕ) → a ≡ capped x → b ≡ capped y → sum_of a b ≡ capped (x + y)
sum_is a b x y p q = omega (arith, p, q)

greater_is : (a b x y : ℕ) → a ≡ capped x → b ≡ capped y → max a b ≡ capped (max x y)
greater_is a b x y p q = omega (arith, p, q)

times_is : (n a x : ℕ) → a ≡ capped x → times n a ≡ capped (n * x)
times_is zero a x p = omega arith
times_is (suc n) a x p = elim (cases_lt x (2 ^ 64 - 1)) [
  | inl less ↦ let same : a ≡ x = omega (arith, p, less) in ap (times (suc n)) same
  | inr not_less ↦
      let same : 2 ^ 64 - 1 ≤ a = omega (arith, p, not_less) in
      let all : 2 ^ 64 - 1 ≤ suc n * a = omega (arith, same) in
      let more : 2 ^ 64 - 1 ≤ suc n * x = omega (arith, not_less) in
      omega (arith, all, more)
]

-- ---- parts of a function

module _ (table : PlainTable) (costs : List ℕ) (most : ℕ → ℕ) (calls : (f : ℕ) → call_cost costs f ≡ capped (most f)) where
  mutual
    expr_is : (e : PlainExpr) → expr_cost table costs e ≡ capped (expr_most table most e)
    expr_is (expression ty mode node) = sum_is _ _ (node_words table ty node) _ refl (node_is node)

    node_is : (node : PlainNode) → node_cost table costs node ≡ capped (node_most table most node)
    node_is (number n) = refl
    node_is null = refl
    node_is (load p) = place_is p
    node_is (address_of p) = place_is p
    node_is (unary op a) = expr_is a
    node_is (binary op a b) = sum_is _ _ (expr_most table most a) (expr_most table most b) (expr_is a) (expr_is b)
    node_is (convert a) = expr_is a
    node_is (assign p a) = sum_is _ _ (place_most table most p) (expr_most table most a) (place_is p) (expr_is a)
    node_is (compound op mode p a) = sum_is _ _ (place_most table most p) (expr_most table most a) (place_is p) (expr_is a)
    node_is (step up prefix p) = place_is p
    node_is (logical_not a) = expr_is a
    node_is (logical_and a b) = sum_is _ _ (expr_most table most a) (expr_most table most b) (expr_is a) (expr_is b)
    node_is (logical_or a b) = sum_is _ _ (expr_most table most a) (expr_most table most b) (expr_is a) (expr_is b)
    node_is (conditional c a b) =
        sum_is _ _ (expr_most table most c) (max (expr_most table most a) (expr_most table most b)) (expr_is c)
        (greater_is _ _ (expr_most table most a) (expr_most table most b) (expr_is a) (expr_is b))
    node_is (comma a b) = sum_is _ _ (expr_most table most a) (expr_most table most b) (expr_is a) (expr_is b)
    node_is (call f args) = sum_is _ _ (exprs_most table most args) (most f) (exprs_are args) (calls f)
    node_is (io op port index value) =
        sum_is _ _ (option_most table most index) (option_most table most value) (option_is index) (option_is value)
    node_is (group acquire g) = refl
    node_is (bind d choice) = refl
    node_is (dynamic_group acquire d) = refl

    place_is : (p : PlainPlace) → place_cost table costs p ≡ capped (place_most table most p)
    place_is (object o) = refl
    place_is (deref e) = expr_is e
    place_is (member p i) = sum_is _ _ member_words (place_most table most p) refl (place_is p)

    option_is : (e : OptionPlainExpr) → option_cost table costs e ≡ capped (option_most table most e)
    option_is no_expr = refl
    option_is (an_expr e) = expr_is e

    exprs_are : (es : PlainExprs) → exprs_cost table costs es ≡ capped (exprs_most table most es)
    exprs_are last_expr = refl
    exprs_are (next_expr e es) = sum_is _ _ (expr_most table most e) (exprs_most table most es) (expr_is e) (exprs_are es)

  optional_is : (e : Option PlainExpr) → optional_cost table costs e ≡ capped (optional_most table most e)
  optional_is None = refl
  optional_is (Some e) = expr_is e

  leaves_are : (es : PlainExprs) → leaves_cost table costs es ≡ capped (leaves_most table most es)
  leaves_are last_expr = refl
  leaves_are (next_expr e es) =
      sum_is _ _ (leaf_words e + expr_most table most e) (leaves_most table most es)
      (sum_is _ _ (leaf_words e) (expr_most table most e) refl (expr_is e)) (leaves_are es)

  loop_is : (turns first c last body x y z w : ℕ) → first ≡ capped x → c ≡ capped y → last ≡ capped z → body ≡ capped w
      → loop_cost turns first c last body ≡ capped (loop_most table most turns x y z w)
  loop_is turns first c last body x y z w p q r s =
      sum_is _ _ x ((turns + 1) * (y + loop_words) + turns * (w + z)) p
      (sum_is _ _ ((turns + 1) * (y + loop_words)) (turns * (w + z))
      (times_is (turns + 1) _ (y + loop_words) (sum_is _ _ y loop_words q refl)) (times_is turns _ (w + z) (sum_is _ _ w z s r)))

  module _ (p : PlainProgram) (f : ℕ) (whole : PlainStmt) where
    mutual
      stmt_is : (s : PlainStmt) → stmt_cost table costs p f whole s ≡ capped (stmt_most table most p f whole s)
      stmt_is (statement unit at kind) = kind_is kind

      kind_is : (kind : PlainKind) → kind_cost table costs p f whole kind ≡ capped (kind_most table most p f whole kind)
      kind_is empty = refl
      kind_is (evaluate e) = expr_is e
      kind_is (block ss) = stmts_are ss
      kind_is (declare o values) = leaves_are values
      kind_is (branch c a b) =
          sum_is _ _ (branch_words + expr_most table most c)
          (max (stmt_most table most p f whole a) (option_stmt_most table most p f whole b))
          (sum_is _ _ branch_words (expr_most table most c) refl (expr_is c))
          (greater_is _ _ (stmt_most table most p f whole a) (option_stmt_most table most p f whole b) (stmt_is a) (option_stmt_is b))
      kind_is (while_loop c body) =
          loop_is 0 _ _ _ _ 0 (expr_most table most c) 0 (stmt_most table most p f whole body) refl (expr_is c) refl (stmt_is body)
      kind_is (do_loop body c) =
          loop_is 0 _ _ _ _ 0 (expr_most table most c) 0 (stmt_most table most p f whole body) refl (expr_is c) refl (stmt_is body)
      kind_is (for_loop first c last body) =
          loop_is (unwrap_or (turns_of p f whole first c last body) 0) _ _ _ _ (option_stmt_most table most p f whole first)
          (optional_most table most c) (optional_most table most last) (stmt_most table most p f whole body) (option_stmt_is first)
          (optional_is c) (optional_is last) (stmt_is body)
      kind_is break_loop = refl
      kind_is continue_loop = refl
      kind_is (return_value e) = sum_is _ _ (return_of e) (optional_most table most e) refl (optional_is e)

      option_stmt_is : (s : OptionPlainStmt)
          → option_stmt_cost table costs p f whole s ≡ capped (option_stmt_most table most p f whole s)
      option_stmt_is no_stmt = refl
      option_stmt_is (a_stmt a) = stmt_is a

      stmts_are : (ss : PlainStmts) → stmts_cost table costs p f whole ss ≡ capped (stmts_most table most p f whole ss)
      stmts_are last_stmt = refl
      stmts_are (next_stmt a ss) =
          sum_is _ _ (stmt_most table most p f whole a) (stmts_most table most p f whole ss) (stmt_is a) (stmts_are ss)

-- ---- all functions

module _ (p : PlainProgram) (table : PlainTable) where
  from_are : (costs : List ℕ) (most : ℕ → ℕ) → ((f : ℕ) → call_cost costs f ≡ capped (most f)) → (i : ℕ) (gs : List PlainFunction)
      (f : ℕ) → call_cost (costs_from table costs p i gs) f ≡ capped (call_most p table most (i + f) (slice_get gs f))
  from_are costs most calls i [] f = refl
  from_are costs most calls i (g ∷ gs) zero =
      let same : i ≡ i + zero = omega arith in
      sum_is _ _ function_words (stmt_most table most p i g.body g.body) refl (stmt_is table costs most calls p i g.body g.body)
      ∙ ap (λ k. capped (call_most p table most k (Some g))) same
  from_are costs most calls i (g ∷ gs) (suc f) =
      let same : i + 1 + f ≡ i + suc f = omega arith in
      from_are costs most calls (i + 1) gs f ∙ ap (λ k. capped (call_most p table most k (slice_get gs f))) same

  within_is : (depth f : ℕ) → call_cost (costs_within table p depth) f ≡ capped (function_most p table depth f)
  within_is zero f = refl
  within_is (suc depth) f =
      let same : 0 + f ≡ f = omega arith in
      from_are (costs_within table p depth) (function_most p table depth) (within_is depth) 0 p.functions f
      ∙ ap (λ k. capped (call_most p table (function_most p table depth) k (slice_get p.functions f))) same

  not_held : (n : ℕ) → 2 ^ 64 - 1 < n → held n ≡ None
  not_held n l = let e : nat_le n (2 ^ 64 - 1) ≡ false = grind (arith, l) in rw e refl

  all_held : (words most : ℕ) → words ≡ capped most → held (64 * (200 + words)) ≡ held (64 * (200 + most))
  all_held words most e = elim (cases_lt most (2 ^ 64 - 1)) [
    | inl less ↦ let same : words ≡ most = omega (arith, e, less) in ap (λ n. held (64 * (200 + n))) same
    | inr not_less ↦
        not_held (64 * (200 + words)) (omega (arith, e, not_less)) ∙ sym (not_held (64 * (200 + most)) (omega (arith, not_less)))
  ]

  pub work_is : (n words : ℕ) → words ≡ call_cost (costs_within table p n) p.main
      → held (64 * (200 + words)) ≡ held (64 * (200 + function_most p table n p.main))
  work_is n words e = all_held words (function_most p table n p.main) (e ∙ within_is n p.main)

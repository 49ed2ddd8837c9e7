-- Sums of numbers of 64 bits.
use Rattle.std.proofs.Common.{◌≡◌, ◌≤◌, ◌+◌, ◌-◌, ◌^◌, ℕ, List, refl, arith}
use Rattle.ec_core.specs.Plain.{PlainExprs, last_expr, next_expr, PlainStmt, PlainStmts, last_stmt, next_stmt, PlainProgram}
use Rattle.ec_core.specs.PortTable.{PlainTable}
use Rattle.ec_core_steps.specs.Costs.{sum_of, exprs_cost, leaves_cost, stmts_cost}

-- what is left begins with one more
pub sum_next : (cost one rest left all new result : ℕ) → new ≡ sum_of cost result → result ≡ one → left ≡ sum_of one rest
    → sum_of cost left ≡ all → sum_of new rest ≡ all
sum_next cost one rest left all new result p q r s = omega (arith, p, q, r, s)

pub sum_both : (a b x y result : ℕ) → result ≡ sum_of a b → a ≡ x → b ≡ y → result ≡ sum_of x y
sum_both a b x y result p q r = omega (arith, p, q, r)

sum_same : (a b : ℕ) → sum_of 0 (sum_of a b) ≡ sum_of a b
sum_same a b = omega arith

pub sum_last : (cost left all : ℕ) → cost ≤ 2 ^ 64 - 1 → left ≡ 0 → sum_of cost left ≡ all → cost ≡ all
sum_last cost left all l p q = omega (arith, l, p, q)

pub exprs_begin : (table : PlainTable) (costs : List ℕ) (es : PlainExprs) → sum_of 0 (exprs_cost table costs es) ≡ exprs_cost table costs es
exprs_begin table costs last_expr = refl
exprs_begin table costs (next_expr e es) = sum_same _ _

pub leaves_begin : (table : PlainTable) (costs : List ℕ) (es : PlainExprs)
    → sum_of 0 (leaves_cost table costs es) ≡ leaves_cost table costs es
leaves_begin table costs last_expr = refl
leaves_begin table costs (next_expr e es) = sum_same _ _

pub stmts_begin : (table : PlainTable) (costs : List ℕ) (p : PlainProgram) (f : ℕ) (whole : PlainStmt) (ss : PlainStmts)
    → sum_of 0 (stmts_cost table costs p f whole ss) ≡ stmts_cost table costs p f whole ss
stmts_begin table costs p f whole last_stmt = refl
stmts_begin table costs p f whole (next_stmt s ss) = sum_same _ _

use Rattle.std.proofs.Common.{◌≡◌, ◌∙◌, ap, arith, List}
use Rattle.std.proofs.lemmas.List.{drop_all}
use Rattle.ec_core.specs.declared.statements.Stmt.{Stmt}
use Rattle.ec_core.specs.Plain.{block, plain_kind, plain_program, plain_stmt, plain_stmts}
use Rattle.ec_core_steps.proofs.Trees.{plain_block}
use Rattle.ec_core.specs.PortTable.{plain_table}
use Rattle.ec_core_steps.specs.Costs.{stmt_cost, stmts_cost}
use Rattle.ec_core_steps.proofs.Lists.{list_next}
use Rattle.ec_core_steps.proofs.Sums.{stmts_begin, sum_next, sum_last}
use Rattle.ec_core_steps.proofs.costs.+statements.Goals as goal

pub stmts_cost-loop-stmt-init : goal.stmts_cost-loop-stmt-init
stmts_cost-loop-stmt-init t c = record {
  total = stmts_begin (plain_table c.args.rates.now.io.now) c.args.rates.now.costs.now (plain_program c.args.within.now.program.now)
      c.args.within.now.function (plain_stmt c.args.within.now.body.now) (plain_stmts c.args.stmts.now);
  below = omega arith;
}

pub stmts_cost-loop-stmt-preserved : goal.stmts_cost-loop-stmt-preserved
stmts_cost-loop-stmt-preserved t c =
    let table = plain_table c.args.rates.now.io.now in
    let costs = c.args.rates.now.costs.now in
    let p = plain_program c.args.within.now.program.now in
    let f = c.args.within.now.function in
    let whole = plain_stmt c.args.within.now.body.now in
    let next = list_next c.args.stmts.now c.loop-stmt.stmt-index c.stmt-item.result (omega (arith, c.loop-stmt-test.true)) c.stmt-item.is in
    record {
      total = sum_next c.loop-stmt.cost (stmt_cost table costs p f whole (plain_stmt c.stmt-item.result)) _ _ _
          c.saturating_add-cost.result c.stmt_cost.result c.saturating_add-cost.ensures c.stmt_cost.ensures
          (ap (λ (ss : List Stmt). stmts_cost table costs p f whole (plain_stmts ss)) next) c.loop-stmt.invariant.total;
      below = omega (arith, c.saturating_add-cost.ensures);
    }

pub stmts_cost-returns : goal.stmts_cost-returns
stmts_cost-returns t c =
    let table = plain_table c.args.rates.now.io.now in
    let costs = c.args.rates.now.costs.now in
    let p = plain_program c.args.within.now.program.now in
    let f = c.args.within.now.function in
    let whole = plain_stmt c.args.within.now.body.now in
    let none = drop_all c.loop-stmt.stmt-index c.args.stmts.now (omega (arith, c.loop-stmt-test.false)) in
    sum_last c.loop-stmt.cost _ _ c.loop-stmt.invariant.below
    (ap (λ (ss : List Stmt). stmts_cost table costs p f whole (plain_stmts ss)) none) c.loop-stmt.invariant.total

pub kind_cost-returns-in-Block : goal.kind_cost-returns-in-Block
kind_cost-returns-in-Block t c =
    let tree : plain_kind c.args.kind.now ≡ block (plain_stmts c.in-Block.stmts.items) =
    ap plain_kind c.in-Block.is ∙ plain_block c.in-Block.stmts in
    rw (tree, ← c.as_slice.ensures) c.stmts_cost.ensures

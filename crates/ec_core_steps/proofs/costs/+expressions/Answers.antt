use Rattle.std.proofs.Common.{◌≡◌, ◌∙◌, ap, arith, List}
use Rattle.std.proofs.lemmas.List.{drop_all}
use Rattle.ec_core.specs.declared.expressions.Expr.{Expr}
use Rattle.ec_core.specs.Plain.{call, plain_expr, plain_exprs, plain_node}
use Rattle.ec_core.specs.PortTable.{plain_table}
use Rattle.ec_core_steps.specs.Costs.{expr_cost, exprs_cost}
use Rattle.ec_core_steps.proofs.Lists.{list_next}
use Rattle.ec_core_steps.proofs.Sums.{exprs_begin, sum_next, sum_last, sum_both}
use Rattle.ec_core_steps.proofs.Trees.{plain_call}
use Rattle.ec_core_steps.proofs.costs.+expressions.Goals as goal

pub exprs_cost-loop-e-init : goal.exprs_cost-loop-e-init
exprs_cost-loop-e-init t c = record {
  total = exprs_begin (plain_table c.args.rates.now.io.now) c.args.rates.now.costs.now (plain_exprs c.args.es.now);
  below = omega arith;
}

pub exprs_cost-loop-e-preserved : goal.exprs_cost-loop-e-preserved
exprs_cost-loop-e-preserved t c =
    let table = plain_table c.args.rates.now.io.now in
    let costs = c.args.rates.now.costs.now in
    let next = list_next c.args.es.now c.loop-e.e-index c.e-item.result (omega (arith, c.loop-e-test.true)) c.e-item.is in
    record {
      total = sum_next c.loop-e.cost (expr_cost table costs (plain_expr c.e-item.result)) _ _ _ c.saturating_add-cost.result
          c.expr_cost.result c.saturating_add-cost.ensures c.expr_cost.ensures
          (ap (λ (es : List Expr). exprs_cost table costs (plain_exprs es)) next) c.loop-e.invariant.total;
      below = omega (arith, c.saturating_add-cost.ensures);
    }

pub exprs_cost-returns : goal.exprs_cost-returns
exprs_cost-returns t c =
    let table = plain_table c.args.rates.now.io.now in
    let costs = c.args.rates.now.costs.now in
    let none = drop_all c.loop-e.e-index c.args.es.now (omega (arith, c.loop-e-test.false)) in
    sum_last c.loop-e.cost _ _ c.loop-e.invariant.below (ap (λ (es : List Expr). exprs_cost table costs (plain_exprs es)) none)
    c.loop-e.invariant.total

pub node_cost-returns-in-Call : goal.node_cost-returns-in-Call
node_cost-returns-in-Call t c =
    let tree : plain_node c.args.node.now ≡ call c.in-Call.function (plain_exprs c.in-Call.args.items) =
    ap plain_node c.in-Call.is ∙ plain_call c.in-Call.function c.in-Call.args in
    rw (tree, ← c.as_slice.ensures)
    (sum_both _ _ _ _ _ c.saturating_add-in-Call.ensures c.exprs_cost.ensures c.call_cost.ensures)

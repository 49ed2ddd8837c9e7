use Rattle.std.proofs.Common.{◌≡◌, ap, arith, List}
use Rattle.std.proofs.lemmas.List.{drop_all}
use Rattle.ec_core.specs.declared.expressions.Expr.{Expr}
use Rattle.ec_core.specs.Plain.{plain_expr, plain_exprs}
use Rattle.ec_core.specs.PortTable.{plain_table}
use Rattle.ec_core_steps.specs.Costs.{leaf_cost, leaves_cost}
use Rattle.ec_core_steps.proofs.Lists.{list_next}
use Rattle.ec_core_steps.proofs.Sums.{leaves_begin, sum_next, sum_last}
use Rattle.ec_core_steps.proofs.costs.leaves_cost.Goals as goal

pub loop-e-init : goal.loop-e-init
loop-e-init c = record {
  total = leaves_begin (plain_table c.args.rates.now.io.now) c.args.rates.now.costs.now (plain_exprs c.args.es.now);
  below = omega arith;
}

pub loop-e-preserved : goal.loop-e-preserved
loop-e-preserved c =
    let table = plain_table c.args.rates.now.io.now in
    let costs = c.args.rates.now.costs.now in
    let next = list_next c.args.es.now c.loop-e.e-index c.e-item.result (omega (arith, c.loop-e-test.true)) c.e-item.is in
    record {
      total = sum_next c.loop-e.cost (leaf_cost table costs (plain_expr c.e-item.result)) _ _ _ c.saturating_add-cost.result
          c.leaf_cost.result c.saturating_add-cost.ensures c.leaf_cost.ensures
          (ap (λ (es : List Expr). leaves_cost table costs (plain_exprs es)) next) c.loop-e.invariant.total;
      below = omega (arith, c.saturating_add-cost.ensures);
    }

pub returns : goal.returns
returns c =
    let table = plain_table c.args.rates.now.io.now in
    let costs = c.args.rates.now.costs.now in
    let none = drop_all c.loop-e.e-index c.args.es.now (omega (arith, c.loop-e-test.false)) in
    sum_last c.loop-e.cost _ _ c.loop-e.invariant.below (ap (λ (es : List Expr). leaves_cost table costs (plain_exprs es)) none)
    c.loop-e.invariant.total

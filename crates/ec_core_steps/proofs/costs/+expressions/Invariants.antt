use Rattle.std.proofs.Common.{◌≡◌, ◌≤◌, ◌-◌, ◌^◌, drop}
use Rattle.ec_core.specs.Plain.{plain_exprs}
use Rattle.ec_core.specs.PortTable.{plain_table}
use Rattle.ec_core_steps.specs.Costs.{sum_of, exprs_cost}
use Rattle.ec_core_steps.proofs.costs.+expressions.Given as goal

-- what was added, with the work of the expressions that are left, is the work of all
abbrev pub invariant-exprs_cost-loop-e : goal.invariant-exprs_cost-loop-e
invariant-exprs_cost-loop-e l = record {
  total :
      sum_of l.cost (exprs_cost (plain_table l.rates.io.now) l.rates.costs.now (plain_exprs (drop l.e-index l.es)))
      ≡ exprs_cost (plain_table l.rates.io.now) l.rates.costs.now (plain_exprs l.es);
  below : l.cost ≤ 2 ^ 64 - 1;
}

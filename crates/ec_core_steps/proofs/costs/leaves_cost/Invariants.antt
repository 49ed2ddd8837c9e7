use Rattle.std.proofs.Common.{◌≡◌, ◌≤◌, ◌-◌, ◌^◌, drop}
use Rattle.ec_core.specs.Plain.{plain_exprs}
use Rattle.ec_core.specs.PortTable.{plain_table}
use Rattle.ec_core_steps.specs.Costs.{sum_of, leaves_cost}
use Rattle.ec_core_steps.proofs.costs.leaves_cost.Given as goal

-- what was added, with the work of the leaves that are left, is the work of all
abbrev pub invariant-loop-e : goal.invariant-loop-e
invariant-loop-e l = record {
  total :
      sum_of l.cost (leaves_cost (plain_table l.rates.io.now) l.rates.costs.now (plain_exprs (drop l.e-index l.es)))
      ≡ leaves_cost (plain_table l.rates.io.now) l.rates.costs.now (plain_exprs l.es);
  below : l.cost ≤ 2 ^ 64 - 1;
}

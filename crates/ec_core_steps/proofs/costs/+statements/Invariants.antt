use Rattle.std.proofs.Common.{◌≡◌, ◌≤◌, ◌-◌, ◌^◌, drop}
use Rattle.ec_core.specs.Plain.{plain_program, plain_stmt, plain_stmts}
use Rattle.ec_core.specs.PortTable.{plain_table}
use Rattle.ec_core_steps.specs.Costs.{sum_of, stmts_cost}
use Rattle.ec_core_steps.proofs.costs.+statements.Given as goal

-- what was added, with the work of the statements that are left, is the work of all
abbrev pub invariant-stmts_cost-loop-stmt : goal.invariant-stmts_cost-loop-stmt
invariant-stmts_cost-loop-stmt l = record {
  total :
      sum_of l.cost (stmts_cost (plain_table l.rates.io.now) l.rates.costs.now (plain_program l.within.program.now) l.within.function (plain_stmt l.within.body.now) (plain_stmts (drop l.stmt-index l.stmts)))
      ≡ stmts_cost (plain_table l.rates.io.now) l.rates.costs.now (plain_program l.within.program.now) l.within.function (plain_stmt l.within.body.now) (plain_stmts l.stmts);
  below : l.cost ≤ 2 ^ 64 - 1;
}

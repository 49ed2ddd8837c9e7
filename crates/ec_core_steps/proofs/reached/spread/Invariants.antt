use Rattle.ec_check_recursion.specs.Rows.{plain_rows}
use Rattle.ec_core_steps.specs.Reached.{IsSpread}
use Rattle.ec_core_steps.proofs.reached.spread.Given as goal

abbrev pub invariant-loop-function : goal.invariant-loop-function
invariant-loop-function l = IsSpread (plain_rows l.rows) l.function l.fn.marks l.marks l.grown

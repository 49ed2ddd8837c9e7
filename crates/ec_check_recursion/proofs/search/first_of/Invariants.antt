use Rattle.std.proofs.Common.{ℕ, ◌<◌}
use Rattle.ec_check_recursion.specs.Rows.{plain_rows, LeadsTo}
use Rattle.ec_check_recursion.proofs.search.first_of.Given as goal

abbrev pub invariant-loop-function : goal.invariant-loop-function
invariant-loop-function l = (k : ℕ) → k < l.function → ¬ LeadsTo (plain_rows l.rows) k k

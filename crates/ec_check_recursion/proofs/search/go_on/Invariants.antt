use Rattle.std.proofs.Common.{ℕ, ◌+◌, length}
use Rattle.std.specs.Prelude.{not}
use Rattle.std.specs.List.{count_by}
use Rattle.ec_check_recursion.specs.Rows.{plain_rows, IsSearch}
use Rattle.ec_check_recursion.proofs.search.go_on.Given as goal

abbrev pub invariant-loop-function : goal.invariant-loop-function
invariant-loop-function l =
    (f : ℕ) → IsSearch (plain_rows l.rows) f l.fn.marks l.fn.waiting.items → IsSearch (plain_rows l.rows) f l.marks l.waiting.items

abbrev pub decreases-loop-function : goal.decreases-loop-function
decreases-loop-function l = count_by not l.marks + length l.waiting.items

use Rattle.std.proofs.Common.{◌≡◌, ◌++◌}
use Rattle.ec_select_startup.specs.Startup.{row_code}
use Rattle.ec_select_startup.proofs.spans.row.Given as goal

abbrev pub invariant-loop : goal.invariant-loop
invariant-loop l = l.out.items ≡ l.fn.out.items ++ row_code l.fn.filling l.counter

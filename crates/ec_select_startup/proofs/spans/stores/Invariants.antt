use Rattle.std.proofs.Common.{◌≡◌, ◌++◌}
use Rattle.ec_select_startup.specs.Startup.{stores_code}
use Rattle.ec_select_startup.proofs.spans.stores.Given as goal

abbrev pub invariant-loop-offset : goal.invariant-loop-offset
invariant-loop-offset l = l.out.items ≡ l.fn.out.items ++ stores_code l.fn.filling l.fn.object l.offset

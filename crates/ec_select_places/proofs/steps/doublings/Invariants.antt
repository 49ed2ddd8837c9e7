use Rattle.std.proofs.Common.{◌≡◌, ◌++◌}
use Rattle.ec_select_places.specs.Steps.{doublings_code}
use Rattle.ec_select_places.proofs.steps.doublings.Given as goal

abbrev pub invariant-loop-i : goal.invariant-loop-i
invariant-loop-i l = l.out.items ≡ l.fn.out.items ++ doublings_code l.i

use Rattle.std.proofs.Common.{◌≡◌, ◌++◌}
use Rattle.ec_select_shifts.specs.Shifts.{turns_code}
use Rattle.ec_select_shifts.proofs.shifts.turns.Given as goal

abbrev pub invariant-loop-i : goal.invariant-loop-i
invariant-loop-i l = l.out.items ≡ l.fn.out.items ++ turns_code l.fn.shift l.fn.at l.fn.bytes l.i

use Rattle.std.proofs.Common.{◌≡◌, ◌++◌}
use Rattle.ec_asm.specs.Items.{chain}
use Rattle.ec_fxcode_shifts.specs.Shifts.{turned_byte}
use Rattle.ec_fxcode_shifts.proofs.shifts.turned.Given as goal

abbrev pub invariant-loop-i : goal.invariant-loop-i
invariant-loop-i l = l.out.items ≡ l.fn.out.items ++ chain (turned_byte l.fn.from l.fn.to) l.i

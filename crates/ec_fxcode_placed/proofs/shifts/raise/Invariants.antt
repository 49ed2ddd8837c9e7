use Rattle.std.proofs.Common.{◌≡◌, ◌++◌}
use Rattle.ec_asm.specs.Items.{chain}
use Rattle.ec_fxcode_placed.specs.Shifts.{raise_byte}
use Rattle.ec_fxcode_placed.proofs.shifts.raise.Given as goal

abbrev pub invariant-loop-i : goal.invariant-loop-i
invariant-loop-i l = l.out.items ≡ l.fn.out.items ++ chain (raise_byte l.fn.at) l.i

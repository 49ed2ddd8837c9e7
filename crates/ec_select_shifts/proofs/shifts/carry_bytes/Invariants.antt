use Rattle.std.proofs.Common.{◌≡◌, ◌++◌}
use Rattle.ec_asm.specs.Items.{chain}
use Rattle.ec_select_shifts.specs.Shifts.{carried_byte}
use Rattle.ec_select_shifts.proofs.shifts.carry_bytes.Given as goal

abbrev pub invariant-loop-i : goal.invariant-loop-i
invariant-loop-i l = l.out.items ≡ l.fn.out.items ++ chain (carried_byte l.fn.by l.fn.r l.fn.bytes l.fn.skipped) l.i

use Rattle.std.proofs.Common.{◌≡◌, ◌++◌}
use Rattle.ec_asm.specs.Items.{chain}
use Rattle.ec_fxcode_placed.specs.Counts.{known_bias_byte}
use Rattle.ec_fxcode_placed.proofs.shifts.known_bias_bytes.Given as goal

abbrev pub invariant-loop-i : goal.invariant-loop-i
invariant-loop-i l = l.out.items ≡ l.fn.out.items ++ chain (known_bias_byte l.fn.r l.fn.count) l.i

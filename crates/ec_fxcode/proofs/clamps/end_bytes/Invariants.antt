use Rattle.std.proofs.Common.{◌≡◌, ◌++◌}
use Rattle.ec_asm.specs.Items.{chain}
use Rattle.ec_fxcode.specs.Clamps.{end_byte}
use Rattle.ec_fxcode.proofs.clamps.end_bytes.Given as goal

abbrev pub invariant-loop-i : goal.invariant-loop-i
invariant-loop-i l = l.out.items ≡ l.fn.out.items ++ chain (end_byte l.fn.to) l.i

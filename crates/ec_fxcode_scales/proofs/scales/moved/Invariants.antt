use Rattle.std.proofs.Common.{◌≡◌, ◌++◌}
use Rattle.ec_asm.specs.Items.{chain}
use Rattle.ec_fxcode_scales.specs.Scales.{moved_byte}
use Rattle.ec_fxcode_scales.proofs.scales.moved.Given as goal

abbrev pub invariant-loop-i : goal.invariant-loop-i
invariant-loop-i l = l.out.items ≡ l.fn.out.items ++ chain (moved_byte l.fn.from l.fn.to l.fn.j l.fn.k) l.i

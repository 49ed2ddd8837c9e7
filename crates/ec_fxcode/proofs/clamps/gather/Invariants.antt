use Rattle.std.proofs.Common.{◌≡◌, ◌+◌, ◌++◌}
use Rattle.ec_asm.specs.Items.{chain}
use Rattle.ec_fxcode.specs.Clamps.{gather_byte}
use Rattle.ec_fxcode.proofs.clamps.gather.Given as goal

abbrev pub invariant-loop-i : goal.invariant-loop-i
invariant-loop-i l = l.out.items ≡ l.fn.out.items ++ chain (λ i. gather_byte l.fn.from (l.fn.k + i)) l.i

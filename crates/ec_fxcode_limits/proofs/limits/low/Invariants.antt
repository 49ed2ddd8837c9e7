use Rattle.std.proofs.Common.{◌≡◌, ◌++◌}
use Rattle.ec_asm.specs.Items.{chain}
use Rattle.ec_fxcode.specs.Clamps.{put_byte}
use Rattle.ec_fxcode_limits.proofs.limits.low.Given as goal

abbrev pub invariant-loop-i : goal.invariant-loop-i
invariant-loop-i l = l.out.items ≡ l.fn.out.items ++ chain (λ i. put_byte l.fn.register l.fn.to i) l.i

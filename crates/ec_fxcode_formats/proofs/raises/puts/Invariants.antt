use Rattle.std.proofs.Common.{◌≡◌, ◌+◌, ◌++◌}
use Rattle.ec_asm.specs.Items.{chain}
use Rattle.ec_fxcode.specs.Clamps.{put_byte}
use Rattle.ec_fxcode_formats.proofs.raises.puts.Given as goal

abbrev pub invariant-loop-j : goal.invariant-loop-j
invariant-loop-j l = l.out.items ≡ l.fn.out.items ++ chain (λ j. put_byte (8 + j) l.fn.to (l.fn.i + j)) l.j

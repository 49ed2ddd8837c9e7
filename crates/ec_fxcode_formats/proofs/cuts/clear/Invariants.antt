use Rattle.std.proofs.Common.{◌≡◌, ◌+◌, ◌++◌}
use Rattle.ec_asm.specs.Items.{chain}
use Rattle.ec_fxcode_formats.specs.Cuts.{clear_byte}
use Rattle.ec_fxcode_formats.proofs.cuts.clear.Given as goal

abbrev pub invariant-loop-i : goal.invariant-loop-i
invariant-loop-i l = l.out.items ≡ l.fn.out.items ++ chain (λ i. clear_byte (l.fn.from + i)) l.i

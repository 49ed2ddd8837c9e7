use Rattle.std.proofs.Common.{◌≡◌, ◌++◌}
use Rattle.ec_asm.specs.Items.{chain}
use Rattle.ec_fxcode_quotients.specs.Quotients.{rotate_byte}
use Rattle.ec_fxcode_quotients.proofs.division.rotate.Given as goal

abbrev pub invariant-loop-i : goal.invariant-loop-i
invariant-loop-i l = l.out.items ≡ l.fn.out.items ++ chain (rotate_byte l.fn.at) l.i

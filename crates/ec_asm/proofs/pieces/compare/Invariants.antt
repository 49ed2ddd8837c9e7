use Rattle.std.proofs.Common.{◌≡◌, ◌++◌}
use Rattle.ec_asm.specs.Pieces.{compare_code}
use Rattle.ec_asm.proofs.pieces.compare.Given as goal

abbrev pub invariant-loop-i : goal.invariant-loop-i
invariant-loop-i l = l.out.items ≡ l.fn.out.items ++ compare_code l.fn.from l.fn.to l.i

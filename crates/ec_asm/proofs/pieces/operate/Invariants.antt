use Rattle.std.proofs.Common.{◌≡◌, ◌++◌}
use Rattle.ec_asm.specs.Pieces.{operate_code}
use Rattle.ec_asm.proofs.pieces.operate.Given as goal

abbrev pub invariant-loop-i : goal.invariant-loop-i
invariant-loop-i l = l.out.items ≡ l.fn.out.items ++ operate_code l.fn.op l.fn.from l.fn.to l.i

use Rattle.std.proofs.Common.{◌≡◌, replicate}
use Rattle.ec_space.proofs.seq.Seq.filled.Given as goal

abbrev pub invariant-loop-i : goal.invariant-loop-i
invariant-loop-i g l = l.seq.items ≡ replicate l._i l.x

use Rattle.std.proofs.Common.{◌≡◌, false, replicate}
use Rattle.ec_core_steps.proofs.reached.unmarked.Given as goal

abbrev pub invariant-loop-place : goal.invariant-loop-place
invariant-loop-place l = l.marks.items ≡ replicate l._place false

use Rattle.std.proofs.Common.{◌+◌, if◌then◌else◌}
use Rattle.std.specs.Prelude.{not}
use Rattle.std.specs.List.{count_by}
use Rattle.ec_core_steps.proofs.Marks.{IsSpreading}
use Rattle.ec_core_steps.proofs.reached.spread_out.Given as goal

abbrev pub invariant-loop-grown : goal.invariant-loop-grown
invariant-loop-grown l = IsSpreading l.rows l.fn.marks l.marks l.grown

abbrev pub decreases-loop-grown : goal.decreases-loop-grown
decreases-loop-grown l = count_by not l.marks + (if l.grown then 1 else 0)

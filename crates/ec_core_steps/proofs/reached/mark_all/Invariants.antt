use Rattle.std.proofs.Common.{take}
use Rattle.ec_core_steps.specs.Reached.{AreMarked}
use Rattle.ec_core_steps.proofs.reached.mark_all.Given as goal

abbrev pub invariant-loop-function : goal.invariant-loop-function
invariant-loop-function l = AreMarked (take l.function-index l.row) l.fn.marks l.marks l.grown

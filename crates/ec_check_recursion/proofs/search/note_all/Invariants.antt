use Rattle.std.proofs.Common.{take}
use Rattle.ec_check_recursion.specs.Rows.{AreNoted}
use Rattle.ec_check_recursion.proofs.search.note_all.Given as goal

abbrev pub invariant-loop-function : goal.invariant-loop-function
invariant-loop-function l =
    AreNoted (take l.function-index l.row) l.fn.marks l.marks l.fn.waiting.items l.waiting.items

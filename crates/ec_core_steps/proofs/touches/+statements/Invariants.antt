use Rattle.std.proofs.Common.{◌≡◌, drop}
use Rattle.ec_core.specs.Plain.{plain_stmts}
use Rattle.ec_core_steps.specs.Touches.{stmts_touch}
use Rattle.ec_core_steps.proofs.touches.+statements.Given as goal

-- what is left touches the object exactly where all do
abbrev pub invariant-in_stmts-loop-stmt : goal.invariant-in_stmts-loop-stmt
invariant-in_stmts-loop-stmt l =
    stmts_touch l.touch l.object (plain_stmts (drop l.stmt-index l.stmts)) ≡ stmts_touch l.touch l.object (plain_stmts l.stmts)

use Rattle.std.proofs.Common.{◌≡◌, drop}
use Rattle.ec_core.specs.Plain.{plain_stmts}
use Rattle.ec_core_steps.specs.Counted.{declared_among}
use Rattle.ec_core_steps.proofs.counted.declared_among.Given as goal

-- what is left tells of the object what all tell
abbrev pub invariant-loop-place : goal.invariant-loop-place
invariant-loop-place l =
    declared_among l.object (plain_stmts (drop l.place l.stmts)) ≡ declared_among l.object (plain_stmts l.stmts)

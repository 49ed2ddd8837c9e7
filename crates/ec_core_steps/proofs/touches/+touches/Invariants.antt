use Rattle.std.proofs.Common.{◌≡◌, drop}
use Rattle.ec_core.specs.Plain.{plain_exprs}
use Rattle.ec_core_steps.specs.Touches.{exprs_touch}
use Rattle.ec_core_steps.proofs.touches.+touches.Given as goal

-- what is left touches the object exactly where all do
abbrev pub invariant-in_exprs-loop-e : goal.invariant-in_exprs-loop-e
invariant-in_exprs-loop-e l =
    exprs_touch l.touch l.object (plain_exprs (drop l.e-index l.exprs)) ≡ exprs_touch l.touch l.object (plain_exprs l.exprs)

use Rattle.std.proofs.Common.{◌∙◌}
use Rattle.ec_lower.proofs.Steps.{so}
use Rattle.ec_lower.proofs.expressions.put_step.Goals as goal

pub returns : goal.returns
returns c = so c.put_settled.result c.put_settled.ensures (λ h rest.
    rw (← c.in_ok-v.ensures) (rw (c.in_ok-at.ensures) at (h rest
    ∙ (c.in_ok-step.ensures _ ∙ (c.in_ok-put.ensures _ ∙ c.in_ok-put_load.ensures _)))))

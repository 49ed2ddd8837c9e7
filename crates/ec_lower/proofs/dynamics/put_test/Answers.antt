use Rattle.std.proofs.Common.{◌∙◌}
use Rattle.ec_lower.proofs.Steps.{so}
use Rattle.ec_lower.proofs.dynamics.put_test.Goals as goal

pub returns : goal.returns
returns c = so c.put-2.result c.put-2.ensures (λ h rest.
    rw (c.in_ok-u.ensures) at (h rest
    ∙ (c.in_ok-put_binary.ensures _ ∙ (c.in_ok-put_base.ensures _ ∙ c.in_ok-put.ensures _))))

use Rattle.std.proofs.Common.{◌∙◌}
use Rattle.ec_lower.proofs.Steps.{so}
use Rattle.ec_lower.proofs.statements.end_loop.Goals as goal

pub returns : goal.returns
returns c = so c.lower_test.result c.lower_test.ensures (λ h rest.
    rw (c.in_ok-on.ensures) at (h rest ∙ (c.in_ok-put-2.ensures _ ∙ (c.in_ok-lower_last.ensures _ ∙ c.in_ok-put.ensures _))))

use Rattle.std.proofs.Common.{◌∙◌}
use Rattle.ec_lower.proofs.Steps.{so}
use Rattle.ec_lower.proofs.statements.lower_test.Goals as goal

pub returns-in_ok-lower_branch-in-Some : goal.returns-in_ok-lower_branch-in-Some
returns-in_ok-lower_branch-in-Some c = so c.put.result c.put.ensures (λ h rest.
    rw (c.in-Some.is) (rw (c.in_ok-k.ensures) at (h rest ∙ c.in_ok-lower_branch-in-Some.ensures.code _)))

use Rattle.ec_lower.proofs.Steps.{so}
use Rattle.ec_lower.proofs.statements.lower_local.Goals as goal

pub returns-clause-code : goal.returns-clause-code
returns-clause-code c = so c.lower_values.result c.lower_values.ensures.code (λ h rest.
    rw (c.in_ok-leaves.ensures) at (h rest))

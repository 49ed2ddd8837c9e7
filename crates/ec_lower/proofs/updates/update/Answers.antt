use Rattle.std.proofs.Common.{◌∙◌}
use Rattle.ec_lower.proofs.Steps.{so}
use Rattle.ec_lower.proofs.updates.update.Goals as goal

pub returns : goal.returns
returns c = so c.give.result c.give.ensures (λ h rest. rw (c.in_ok-up.ensures) at (h rest ∙ c.in_ok-operate.ensures _))

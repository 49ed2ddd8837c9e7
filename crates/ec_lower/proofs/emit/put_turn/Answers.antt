use Rattle.std.proofs.Common.{◌∙◌}
use Rattle.ec_lower.proofs.Steps.{so}
use Rattle.ec_lower.proofs.emit.put_turn.Goals as goal

pub returns : goal.returns
returns c = so c.put-2.result c.put-2.ensures (λ h rest. h rest ∙ c.in_ok-put.ensures _)

use Rattle.std.proofs.Common.{◌∙◌}
use Rattle.ec_lower.proofs.Steps.{so}
use Rattle.ec_lower.proofs.emit.truth.Goals as goal

pub returns : goal.returns
returns c = so c.put-3.result c.put-3.ensures (λ h rest.
    rw (c.truth_constant.ensures, c.truth_constant-2.ensures, c.temp.ensures, c.temp-2.ensures, c.in_ok-end.ensures) at (h rest
    ∙ (c.in_ok-put-2.ensures _ ∙ (c.in_ok-put_turn.ensures _ ∙ c.in_ok-put.ensures _))))

use Rattle.std.proofs.Common.{◌∙◌}
use Rattle.ec_lower.proofs.Steps.{so}
use Rattle.ec_lower.proofs.places.advance.Goals as goal

pub returns : goal.returns
returns c = so c.put_store.result c.put_store.ensures (λ h rest.
    rw (c.in_ok-up.ensures) at (h rest ∙ c.in_ok-put_binary.ensures _))

use Rattle.std.proofs.Common.{◌∙◌}
use Rattle.ec_lower.proofs.Steps.{so}
use Rattle.ec_lower.proofs.updates.give.Goals as goal

pub returns : goal.returns
returns c = so c.put_store.result c.put_store.ensures (λ h rest.
    rw (c.update_types-types.ensures.value, c.number_type.ensures, c.number_type-2.ensures) at (h rest
    ∙ c.in_ok-bring_back.ensures _))

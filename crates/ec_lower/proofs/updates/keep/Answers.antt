use Rattle.std.proofs.Common.{◌∙◌}
use Rattle.ec_lower.proofs.Steps.{so}
use Rattle.ec_lower.proofs.updates.keep.Goals as goal

pub returns : goal.returns
returns c = so c.bring_back.result c.bring_back.ensures (λ h rest.
    rw (
      c.update_types-types.ensures.left,
      c.number_type.ensures,
      c.number_type-2.ensures,
      c.in_ok-up.ensures,
    ) at (h rest ∙ (c.in_ok-give.ensures _ ∙ c.in_ok-operate.ensures _)))

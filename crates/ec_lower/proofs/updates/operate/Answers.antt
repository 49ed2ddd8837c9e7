use Rattle.std.proofs.Common.{◌∙◌}
use Rattle.ec_lower.proofs.Steps.{so}
use Rattle.ec_lower.proofs.updates.operate.Goals as goal

pub returns : goal.returns
returns c = so c.put_operation.result c.put_operation.ensures (λ h rest.
    rw (
      c.update_types-types.ensures.left,
      c.update_types-types.ensures.right,
      c.update_types-types.ensures.value,
      c.number_type.ensures,
      c.number_type-2.ensures,
    ) at (h rest ∙ (c.in_ok-bring-2.ensures _ ∙ c.in_ok-bring.ensures _)))

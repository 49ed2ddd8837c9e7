use Rattle.std.proofs.Common.{rules}
use Rattle.ec_core_steps.proofs.counted.turns_by.Goals as goal
use Rattle.ec_core_steps.proofs.counted.turns_by.Goals.{else-update-condition-via-then-update-condition+then-leads_to+then-is_int+else-is_int-2, else-update-condition-via-then-update-condition+then-leads_to+else-is_int, else-update-condition-via-then-update-condition+else-leads_to, else-update-condition-via-else-update-condition}

pub returns-else-update-condition : goal.returns-else-update-condition
returns-else-update-condition c = elim c.else-update-condition.branch [
  | else-update-condition-via-then-update-condition+then-leads_to+then-is_int+else-is_int-2 w ↦ search rules
  | else-update-condition-via-then-update-condition+then-leads_to+else-is_int w ↦ search rules
  | else-update-condition-via-then-update-condition+else-leads_to w ↦ search rules
  | else-update-condition-via-else-update-condition w ↦ search rules
]

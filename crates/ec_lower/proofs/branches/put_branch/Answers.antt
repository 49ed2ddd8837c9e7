use Rattle.std.proofs.Common.{◌∙◌}
use Rattle.ec_lower.proofs.Steps.{so}
use Rattle.ec_lower.proofs.branches.put_branch.Goals as goal

pub returns-in_ok-put-in-WhereNot : goal.returns-in_ok-put-in-WhereNot
returns-in_ok-put-in-WhereNot c = so c.put_turn.result c.put_turn.ensures (λ h rest.
    rw (c.in-WhereNot.is) (h rest ∙ c.in_ok-put-in-WhereNot.ensures _))

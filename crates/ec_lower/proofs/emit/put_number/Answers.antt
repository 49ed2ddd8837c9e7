use Rattle.ec_lower.proofs.Steps.{so}
use Rattle.ec_lower.proofs.emit.put_number.Goals as goal

pub returns : goal.returns
returns c = so c.put.result c.put.ensures (λ h rest. rw (c.number.ensures, c.temp.ensures) at (h rest))

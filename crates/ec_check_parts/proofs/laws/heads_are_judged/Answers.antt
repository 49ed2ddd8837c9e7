use Rattle.ec_check_parts.proofs.Heads.{heads_are_judged}
use Rattle.ec_check_parts.proofs.laws.heads_are_judged.Goals as goal

pub returns : goal.returns
returns c = heads_are_judged

use Rattle.ec_check_meanings.proofs.Rules.{constraints_are_told}
use Rattle.ec_check_meanings.proofs.laws.constraints_are_told.Goals as goal

pub returns : goal.returns
returns c = constraints_are_told c.rules_are_constraints.ensures c.sites_are_judged.ensures

use Rattle.ec_check_forms.proofs.Rules.{rules_are_constraints}
use Rattle.ec_check_forms.proofs.laws.rules_are_constraints.Goals as goal

pub returns : goal.returns
returns c = rules_are_constraints c.types_are_told.ensures

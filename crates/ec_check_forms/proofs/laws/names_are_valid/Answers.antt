use Rattle.ec_check_forms.proofs.FormsValid.{names_are_valid}
use Rattle.ec_check_forms.proofs.laws.names_are_valid.Goals as goal

pub returns : goal.returns
returns c = names_are_valid

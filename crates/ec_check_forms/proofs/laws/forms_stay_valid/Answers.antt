use Rattle.ec_check_forms.proofs.FormsValid.{forms_stay_valid}
use Rattle.ec_check_forms.proofs.laws.forms_stay_valid.Goals as goal

pub returns : goal.returns
returns c = forms_stay_valid c.types_are_told.ensures c.usual_conversions.ensures

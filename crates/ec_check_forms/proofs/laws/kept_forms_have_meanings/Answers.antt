use Rattle.ec_check_forms.proofs.Meanings.{kept_forms_have_meanings}
use Rattle.ec_check_forms.proofs.laws.kept_forms_have_meanings.Goals as goal

pub returns : goal.returns
returns c = kept_forms_have_meanings c.types_are_told.ensures

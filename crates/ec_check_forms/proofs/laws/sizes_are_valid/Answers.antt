use Rattle.ec_check_forms.proofs.Sizes.{sizes_are_valid}
use Rattle.ec_check_forms.proofs.laws.sizes_are_valid.Goals as goal

pub returns : goal.returns
returns c = sizes_are_valid

use Rattle.ec_check_constants.proofs.Forms.{constant_of}
use Rattle.ec_check_constants.proofs.laws.valid_forms_are_constant.Goals as goal

pub returns : goal.returns
returns c = constant_of

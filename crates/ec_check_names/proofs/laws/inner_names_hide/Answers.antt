use Rattle.ec_check_names.proofs.Naming.{inner_names_hide}
use Rattle.ec_check_names.proofs.laws.inner_names_hide.Goals as goal

pub returns : goal.returns
returns c = inner_names_hide

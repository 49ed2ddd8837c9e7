use Rattle.ec_check_names.proofs.Naming.{outer_names_are_known}
use Rattle.ec_check_names.proofs.laws.outer_names_are_known.Goals as goal

pub returns : goal.returns
returns c = outer_names_are_known

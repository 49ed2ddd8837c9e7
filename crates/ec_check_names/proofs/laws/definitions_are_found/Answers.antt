use Rattle.ec_check_names.proofs.Finding.{definitions_are_found}
use Rattle.ec_check_names.proofs.laws.definitions_are_found.Goals as goal

pub returns : goal.returns
returns c = definitions_are_found

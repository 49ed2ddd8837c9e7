use Rattle.ec_check_names.proofs.Numbered.{definitions_are_numbered}
use Rattle.ec_check_names.proofs.laws.definitions_are_numbered.Goals as goal

pub returns : goal.returns
returns c = definitions_are_numbered

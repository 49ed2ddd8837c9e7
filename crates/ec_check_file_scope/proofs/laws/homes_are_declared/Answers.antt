use Rattle.ec_check_file_scope.proofs.DeclaredHomes.{homes_are_declared}
use Rattle.ec_check_file_scope.proofs.laws.homes_are_declared.Goals as goal

pub returns : goal.returns
returns c = homes_are_declared

use Rattle.ec_check_file_scope.proofs.Conflicts.{conflicts_are_told}
use Rattle.ec_check_file_scope.proofs.laws.conflicts_are_told.Goals as goal

pub returns : goal.returns
returns c = conflicts_are_told c.types_are_told.ensures

use Rattle.ec_check_parts.proofs.FileNames.{file_names_are_judged}
use Rattle.ec_check_parts.proofs.laws.file_names_are_judged.Goals as goal

pub returns : goal.returns
returns c = file_names_are_judged c.types_are_told.ensures c.conflicts_are_told.ensures

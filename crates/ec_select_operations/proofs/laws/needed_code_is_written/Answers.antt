use Rattle.ec_select_operations.proofs.Written.{needed_code_is_written}
use Rattle.ec_select_operations.proofs.laws.needed_code_is_written.Goals as goal

pub returns : goal.returns
returns c = needed_code_is_written

use Rattle.ec_check_names.proofs.Naming.{blocks_end}
use Rattle.ec_check_names.proofs.laws.blocks_end.Goals as goal

pub returns : goal.returns
returns c = blocks_end

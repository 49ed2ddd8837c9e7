use Rattle.ec_core_accesses.proofs.Objects.{accesses_are_live}
use Rattle.ec_core_accesses.proofs.accesses_are_live.Goals as goal

pub returns : goal.returns
returns c = accesses_are_live

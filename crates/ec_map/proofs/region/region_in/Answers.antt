use Rattle.std.proofs.Common.{arith}
use Rattle.ec_map.proofs.Arrays.{not_two}
use Rattle.ec_map.proofs.region.region_in.Goals as goal

pub returns-in_default : goal.returns-in_default
returns-in_default c = not_two _ (omega arith)

pub returns-in_default-2 : goal.returns-in_default-2
returns-in_default-2 c = not_two _ (omega arith)

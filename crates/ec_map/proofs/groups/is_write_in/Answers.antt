use Rattle.std.proofs.Common.{arith}
use Rattle.ec_map.proofs.Arrays.{no_write}
use Rattle.ec_map.proofs.groups.is_write_in.Goals as goal

pub returns-in_default : goal.returns-in_default
returns-in_default c = no_write c.args.core _ (omega arith)

pub returns-in_default-2 : goal.returns-in_default-2
returns-in_default-2 c = no_write c.args.core _ (omega arith)

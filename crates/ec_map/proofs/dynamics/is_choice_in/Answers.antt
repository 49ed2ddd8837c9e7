use Rattle.std.proofs.Common.{map, arith}
use Rattle.toml.specs.View.{view}
use Rattle.ec_map.proofs.Arrays.{no_choice}
use Rattle.ec_map.proofs.dynamics.is_choice_in.Goals as goal

pub returns-in_default : goal.returns-in_default
returns-in_default c = no_choice (map view c.args.groups.now) _ (omega arith)

pub returns-in_default-2 : goal.returns-in_default-2
returns-in_default-2 c = no_choice (map view c.args.groups.now) _ (omega arith)
